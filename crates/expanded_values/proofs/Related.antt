-- What a fold makes of a rewritten tree is related to what another makes of the tree before, where each layer is.
use Rattle.std.specs.Prelude.{◌≡◌, ℕ, true, ◌&&◌, List, None, Ok}
use Rattle.std.proofs.Common.{refl, sym, ap, ◌∙◌, subst}
use Rattle.wrap_words.specs.declared.kind.Kind.{Kind}
use Rattle.affine_rows.specs.declared.quasi.Quasi.{Quasi}
use Rattle.expr_tree.specs.declared.tree.Op.{Op}
use Rattle.expr_tree.specs.declared.tree.Rel.{Rel}
use Rattle.expr_tree.specs.declared.tree.Cell.{Cell}
use Rattle.expr_tree.specs.declared.tree.Node.{Node, roll-Node, map-Node, fold-Node, fold-roll-Node}
use Rattle.expr_tree.specs.declared.tree.Node.TheOpen.{Node-F, Test-F, Expr-F}
use Rattle.expr_tree.specs.declared.tree.Node.TheVariants as node
use Rattle.expr_tree.specs.declared.tree.Test.{Test, roll-Test, map-Test, fold-Test, fold-roll-Test, ind-Test}
use Rattle.expr_tree.specs.declared.tree.Expr.{Expr, roll-Expr, map-Expr, fold-Expr, fold-roll-Expr, ind-Expr}
use Rattle.expr_tree.specs.Rewritten.{Rules, Outcome, tree_of, answered, node_outcome, test_outcome, outcome_of, outcome_of_node, outcome_of_test, rewritten, rewritten_test}
use Rattle.expr_tree.specs.Keeping.{Parts, all_parts, parts_of_node, parts_of_test, is_made_of, node_is_made_of, test_is_made_of}
use Rattle.expr_tree.proofs.Layers.{outcome_node, outcome_test, outcome_expr, made_node, made_test, made_expr, left, right}
use Rattle.expr_tree.proofs.AllParts.{all_made, all_tests_made}
use Rattle.expr_tree.proofs.Unreplaced.{trees_stay, tests_stay}
use Rattle.subst_rules.proofs.Agreeing.{quiet, quiet_on_tests}
use Rattle.expr_tree.proofs.Made.{of_expr, of_test, made-Neg, made-Inv, made-Shl, made-Shr, made-Bin, made-Pick, made-Cast, made-Fold, made-Words, made-Index, made-All, made-Any, made-Not}

module _ (r : Rules) (p : Parts) (A T B U : Type 0) (nd : Node-F A T A → A) (ts : Test-F A T A → T) (old_node : Node-F B U B → B) (old_test : Test-F B U B → U) (R : A → B → Type 0) (Q : T → U → Type 0) where
  abbrev pub by_node : Node → B
  by_node = fold-Node B U B old_node old_test (λ e. e.node)

  abbrev pub by_test : Test → U
  by_test = fold-Test B U B old_node old_test (λ e. e.node)

  abbrev pub by_expr : Expr → B
  by_expr = fold-Expr B U B old_node old_test (λ e. e.node)

  -- what is asked of each layer: parts that are replaced, and then nodes and tests over related parts
  pub record Related : Type 0 where
    pub literal : (n : ℕ) → p.leaf (node.Literal n) ≡ true → R (of_expr A T nd ts (answered (r.leaf (node.Literal n)) (tree_of (node.Literal n))).new) (old_node (Node-F.Literal n))
    pub leaf : (q : Quasi) → p.leaf (node.Leaf q) ≡ true → R (of_expr A T nd ts (answered (r.leaf (node.Leaf q)) (tree_of (node.Leaf q))).new) (old_node (Node-F.Leaf q))
    pub read : (cell : Cell) (place : List Quasi) → p.leaf (node.Read cell place) ≡ true → R (of_expr A T nd ts (answered (r.leaf (node.Read cell place)) (tree_of (node.Read cell place))).new) (old_node (Node-F.Read cell place))
    pub call : (rule : ℕ) (arguments : List Quasi) → p.leaf (node.Call rule arguments) ≡ true
        → R (of_expr A T nd ts (answered (r.leaf (node.Call rule arguments)) (tree_of (node.Call rule arguments))).new) (old_node (Node-F.Call rule arguments))
    pub neg : (a : A) (b : B) → R a b → R (nd (Node-F.Neg a)) (old_node (Node-F.Neg b))
    pub inv : (a : A) (b : B) → R a b → R (nd (Node-F.Inv a)) (old_node (Node-F.Inv b))
    pub shl : (a : A) (b : B) (by : ℕ) → R a b → R (nd (Node-F.Shl a by)) (old_node (Node-F.Shl b by))
    pub shr : (a : A) (b : B) (by : ℕ) → R a b → R (nd (Node-F.Shr a by)) (old_node (Node-F.Shr b by))
    pub bin : (op : Op) (a : A) (b : B) (c : A) (d : B) → R a b → R c d → R (nd (Node-F.Bin op a c)) (old_node (Node-F.Bin op b d))
    pub pick : (t : T) (u : U) (a : A) (b : B) (c : A) (d : B) → Q t u → R a b → R c d → R (nd (Node-F.Pick t a c)) (old_node (Node-F.Pick u b d))
    pub cast : (kind : Kind) (a : A) (b : B) → R a b → R (nd (Node-F.Cast kind a)) (old_node (Node-F.Cast kind b))
    pub fold : (op : Op) (inames : List ℕ) (a : A) (b : B) → p.over inames ≡ true → R a b → R (nd (Node-F.Fold op (answered (r.over inames) inames).new a)) (old_node (Node-F.Fold op inames b))
    pub words : (rel : Rel) (a : A) (b : B) (c : A) (d : B) → R a b → R c d → Q (ts (Test-F.Words rel a c)) (old_test (Test-F.Words rel b d))
    pub index : (rel : Rel) (a b : Quasi) → p.form a ≡ true → p.form b ≡ true → Q (ts (Test-F.Index rel (answered (r.form a) a).new (answered (r.form b) b).new)) (old_test (Test-F.Index rel a b))
    pub all : (t : T) (u : U) (v : T) (w : U) → Q t u → Q v w → Q (ts (Test-F.All t v)) (old_test (Test-F.All u w))
    pub any : (t : T) (u : U) (v : T) (w : U) → Q t u → Q v w → Q (ts (Test-F.Any t v)) (old_test (Test-F.Any u w))
    pub not : (t : T) (u : U) → Q t u → Q (ts (Test-F.Not t)) (old_test (Test-F.Not u))

  abbrev IsNode : Node → Type 0
  IsNode n = node_is_made_of p n ≡ true → R (of_expr A T nd ts (outcome_of_node r n).new) (by_node n)

  abbrev IsTest : Test → Type 0
  IsTest t = test_is_made_of p t ≡ true → Q (of_test A T nd ts (outcome_of_test r t).new) (by_test t)

  abbrev IsExpr : Expr → Type 0
  IsExpr e = is_made_of p e ≡ true → R (of_expr A T nd ts (outcome_of r e).new) (by_expr e)

  carry : (a c : A) (b d : B) → c ≡ a → d ≡ b → R a b → R c d
  carry a c b d e f h = subst (λ (x : A). R x d) (sym e) (subst (λ (y : B). R a y) (sym f) h)

  carry_test : (a c : T) (b d : U) → c ≡ a → d ≡ b → Q a b → Q c d
  carry_test a c b d e f h = subst (λ (x : T). Q x d) (sym e) (subst (λ (y : U). Q a y) (sym f) h)

  node_at : (n : Node-F Node Test Expr) (a : A) → of_expr A T nd ts (node_outcome r (map-Node _ _ _ _ _ _ (outcome_of_node r) (outcome_of_test r) (outcome_of r) n)).new ≡ a
      → (parts_of_node p (map-Node _ _ _ _ _ _ (node_is_made_of p) (test_is_made_of p) (is_made_of p) n) ≡ true → R a (old_node (map-Node _ _ _ _ _ _ by_node by_test by_expr n))) → IsNode (roll-Node n)
  node_at n a is h made =
      carry a (of_expr A T nd ts (outcome_of_node r (roll-Node n)).new) (old_node (map-Node _ _ _ _ _ _ by_node by_test by_expr n)) (by_node (roll-Node n))
      (ap (λ (o : Outcome Expr). of_expr A T nd ts o.new) (outcome_node r n) ∙ is) (fold-roll-Node B U B old_node old_test (λ e. e.node) n) (h (sym (made_node p n) ∙ made))

  test_at : (t : Test-F Node Test Expr) (a : T) → of_test A T nd ts (test_outcome r (map-Test _ _ _ _ _ _ (outcome_of_node r) (outcome_of_test r) (outcome_of r) t)).new ≡ a
      → (parts_of_test p (map-Test _ _ _ _ _ _ (node_is_made_of p) (test_is_made_of p) (is_made_of p) t) ≡ true → Q a (old_test (map-Test _ _ _ _ _ _ by_node by_test by_expr t))) → IsTest (roll-Test t)
  test_at t a is h made =
      carry_test a (of_test A T nd ts (outcome_of_test r (roll-Test t)).new) (old_test (map-Test _ _ _ _ _ _ by_node by_test by_expr t)) (by_test (roll-Test t))
      (ap (λ (o : Outcome Test). of_test A T nd ts o.new) (outcome_test r t) ∙ is) (fold-roll-Test B U B old_node old_test (λ e. e.node) t) (h (sym (made_test p t) ∙ made))

  expr_at : (e : Expr-F Node Test Expr) → IsNode e.node → IsExpr (roll-Expr e)
  expr_at e h made =
      carry (of_expr A T nd ts (outcome_of_node r e.node).new) (of_expr A T nd ts (outcome_of r (roll-Expr e)).new) (by_node e.node) (by_expr (roll-Expr e))
      (ap (λ (o : Outcome Expr). of_expr A T nd ts o.new) (outcome_expr r e)) (fold-roll-Expr B U B old_node old_test (λ e. e.node) e) (h (sym (made_expr p e) ∙ made))

  module _ (given : Related) where
    node_case : (y : Node-F ((n : Node) × IsNode n) ((t : Test) × IsTest t) ((e : Expr) × IsExpr e)) → IsNode (roll-Node (map-Node _ _ _ _ _ _ (λ e. e.0) (λ e. e.0) (λ e. e.0) y))
    node_case (Node-F.Literal n) = node_at (Node-F.Literal n) _ refl (given.literal n)
    node_case (Node-F.Leaf form) = node_at (Node-F.Leaf form) _ refl (given.leaf form)
    node_case (Node-F.Read cell place) = node_at (Node-F.Read cell place) _ refl (given.read cell place)
    node_case (Node-F.Call rule arguments) = node_at (Node-F.Call rule arguments) _ refl (given.call rule arguments)
    node_case (Node-F.Neg a) = node_at (Node-F.Neg a.0) _ (made-Neg A T nd ts (outcome_of r a.0).new) (λ made. given.neg (of_expr A T nd ts (outcome_of r a.0).new) (by_expr a.0) (a.1 made))
    node_case (Node-F.Inv a) = node_at (Node-F.Inv a.0) _ (made-Inv A T nd ts (outcome_of r a.0).new) (λ made. given.inv (of_expr A T nd ts (outcome_of r a.0).new) (by_expr a.0) (a.1 made))
    node_case (Node-F.Shl a by) = node_at (Node-F.Shl a.0 by) _ (made-Shl A T nd ts (outcome_of r a.0).new by) (λ made. given.shl (of_expr A T nd ts (outcome_of r a.0).new) (by_expr a.0) by (a.1 made))
    node_case (Node-F.Shr a by) = node_at (Node-F.Shr a.0 by) _ (made-Shr A T nd ts (outcome_of r a.0).new by) (λ made. given.shr (of_expr A T nd ts (outcome_of r a.0).new) (by_expr a.0) by (a.1 made))
    node_case (Node-F.Bin op a b) = node_at (Node-F.Bin op a.0 b.0) _ (made-Bin A T nd ts op (outcome_of r a.0).new (outcome_of r b.0).new)
        (λ made. given.bin op (of_expr A T nd ts (outcome_of r a.0).new) (by_expr a.0) (of_expr A T nd ts (outcome_of r b.0).new) (by_expr b.0) (a.1 (left (is_made_of p a.0) (is_made_of p b.0) made)) (b.1 (right (is_made_of p a.0) (is_made_of p b.0) made)))
    node_case (Node-F.Pick t a b) = node_at (Node-F.Pick t.0 a.0 b.0) _ (made-Pick A T nd ts (outcome_of_test r t.0).new (outcome_of r a.0).new (outcome_of r b.0).new)
        (λ made.
        let sides = right (test_is_made_of p t.0) (is_made_of p a.0 && is_made_of p b.0) made in
        given.pick (of_test A T nd ts (outcome_of_test r t.0).new) (by_test t.0) (of_expr A T nd ts (outcome_of r a.0).new) (by_expr a.0) (of_expr A T nd ts (outcome_of r b.0).new) (by_expr b.0)
        (t.1 (left (test_is_made_of p t.0) (is_made_of p a.0 && is_made_of p b.0) made)) (a.1 (left (is_made_of p a.0) (is_made_of p b.0) sides)) (b.1 (right (is_made_of p a.0) (is_made_of p b.0) sides)))
    node_case (Node-F.Cast kind a) = node_at (Node-F.Cast kind a.0) _ (made-Cast A T nd ts kind (outcome_of r a.0).new) (λ made. given.cast kind (of_expr A T nd ts (outcome_of r a.0).new) (by_expr a.0) (a.1 made))
    node_case (Node-F.Fold op inames a) = node_at (Node-F.Fold op inames a.0) _ (made-Fold A T nd ts op (answered (r.over inames) inames).new (outcome_of r a.0).new)
        (λ made. given.fold op inames (of_expr A T nd ts (outcome_of r a.0).new) (by_expr a.0) (left (p.over inames) (is_made_of p a.0) made) (a.1 (right (p.over inames) (is_made_of p a.0) made)))

    test_case : (y : Test-F ((n : Node) × IsNode n) ((t : Test) × IsTest t) ((e : Expr) × IsExpr e)) → IsTest (roll-Test (map-Test _ _ _ _ _ _ (λ e. e.0) (λ e. e.0) (λ e. e.0) y))
    test_case (Test-F.Words rel a b) = test_at (Test-F.Words rel a.0 b.0) _ (made-Words A T nd ts rel (outcome_of r a.0).new (outcome_of r b.0).new)
        (λ made. given.words rel (of_expr A T nd ts (outcome_of r a.0).new) (by_expr a.0) (of_expr A T nd ts (outcome_of r b.0).new) (by_expr b.0) (a.1 (left (is_made_of p a.0) (is_made_of p b.0) made)) (b.1 (right (is_made_of p a.0) (is_made_of p b.0) made)))
    test_case (Test-F.Index rel a b) = test_at (Test-F.Index rel a b) _ (made-Index A T nd ts rel (answered (r.form a) a).new (answered (r.form b) b).new) (λ made. given.index rel a b (left (p.form a) (p.form b) made) (right (p.form a) (p.form b) made))
    test_case (Test-F.All t u) = test_at (Test-F.All t.0 u.0) _ (made-All A T nd ts (outcome_of_test r t.0).new (outcome_of_test r u.0).new)
        (λ made. given.all (of_test A T nd ts (outcome_of_test r t.0).new) (by_test t.0) (of_test A T nd ts (outcome_of_test r u.0).new) (by_test u.0) (t.1 (left (test_is_made_of p t.0) (test_is_made_of p u.0) made)) (u.1 (right (test_is_made_of p t.0) (test_is_made_of p u.0) made)))
    test_case (Test-F.Any t u) = test_at (Test-F.Any t.0 u.0) _ (made-Any A T nd ts (outcome_of_test r t.0).new (outcome_of_test r u.0).new)
        (λ made. given.any (of_test A T nd ts (outcome_of_test r t.0).new) (by_test t.0) (of_test A T nd ts (outcome_of_test r u.0).new) (by_test u.0) (t.1 (left (test_is_made_of p t.0) (test_is_made_of p u.0) made)) (u.1 (right (test_is_made_of p t.0) (test_is_made_of p u.0) made)))
    test_case (Test-F.Not t) = test_at (Test-F.Not t.0) _ (made-Not A T nd ts (outcome_of_test r t.0).new) (λ made. given.not (of_test A T nd ts (outcome_of_test r t.0).new) (by_test t.0) (t.1 made))

    expr_case : (y : Expr-F ((n : Node) × IsNode n) ((t : Test) × IsTest t) ((e : Expr) × IsExpr e)) → IsExpr (roll-Expr (map-Expr _ _ _ _ _ _ (λ e. e.0) (λ e. e.0) (λ e. e.0) y))
    expr_case y = expr_at (map-Expr _ _ _ _ _ _ (λ e. e.0) (λ e. e.0) (λ e. e.0) y) y.node.1

    pub related : (e : Expr) → IsExpr e
    related = ind-Expr IsNode IsTest IsExpr
        (λ x y is. subst (λ z. IsNode (roll-Node z)) is (node_case y))
        (λ x y is. subst (λ z. IsTest (roll-Test z)) is (test_case y))
        (λ x y is. subst (λ z. IsExpr (roll-Expr z)) is (expr_case y))

    pub related_test : (t : Test) → IsTest t
    related_test = ind-Test IsNode IsTest IsExpr
        (λ x y is. subst (λ z. IsNode (roll-Node z)) is (node_case y))
        (λ x y is. subst (λ z. IsTest (roll-Test z)) is (test_case y))
        (λ x y is. subst (λ z. IsExpr (roll-Expr z)) is (expr_case y))

-- ---- where nothing is replaced

abbrev pub nothing : Rules
nothing = record { leaf = λ n. Ok None; form = λ q. Ok None; over = λ inames. Ok None }

stays : (e : Expr) → rewritten nothing e ≡ e
stays e = (trees_stay nothing e (quiet nothing all_parts (λ n made. refl) (λ q made. refl) (λ is made. refl) e (all_made e)).changed).same

test_stays : (t : Test) → rewritten_test nothing t ≡ t
test_stays t = (tests_stay nothing t (quiet_on_tests nothing all_parts (λ n made. refl) (λ q made. refl) (λ is made. refl) t (all_tests_made t)).changed).same

module _ (p : Parts) (A T B U : Type 0) (nd : Node-F A T A → A) (ts : Test-F A T A → T) (old_node : Node-F B U B → B) (old_test : Test-F B U B → U) (R : A → B → Type 0) (Q : T → U → Type 0) (given : Related nothing p A T B U nd ts old_node old_test R Q) where
  pub related_folds : (e : Expr) → is_made_of p e ≡ true → R (of_expr A T nd ts e) (by_expr nothing p A T B U nd ts old_node old_test R Q e)
  related_folds e made = subst (λ (x : Expr). R (of_expr A T nd ts x) (by_expr nothing p A T B U nd ts old_node old_test R Q e)) (stays e) (related nothing p A T B U nd ts old_node old_test R Q given e made)

  pub related_test_folds : (t : Test) → test_is_made_of p t ≡ true → Q (of_test A T nd ts t) (by_test nothing p A T B U nd ts old_node old_test R Q t)
  related_test_folds t made = subst (λ (x : Test). Q (of_test A T nd ts x) (by_test nothing p A T B U nd ts old_node old_test R Q t)) (test_stays t) (related_test nothing p A T B U nd ts old_node old_test R Q given t made)
