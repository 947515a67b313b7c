-- Rewritings that agree where the first does not refuse, and rewritings that put nothing.
use Rattle.std.specs.Prelude.{◌≡◌, ℕ, Bool, true, false, ◌&&◌, ◌||◌, if◌then◌else◌, List, Option, Some, None, Result, Ok}
use Rattle.std.proofs.Common.{refl, sym, ap, ap₂, ◌∙◌, subst}
use Rattle.affine_rows.specs.declared.quasi.Quasi.{Quasi}
use Rattle.expr_tree.specs.declared.build.ExprFault.{ExprFault}
use Rattle.expr_tree.specs.declared.tree.Node.{Node, roll-Node, map-Node}
use Rattle.expr_tree.specs.declared.tree.Node.TheOpen.{Node-F, Test-F, Expr-F}
use Rattle.expr_tree.specs.declared.tree.Node.TheVariants as node
use Rattle.expr_tree.specs.declared.tree.Test.{Test, roll-Test, map-Test, ind-Test}
use Rattle.expr_tree.specs.declared.tree.Test.TheVariants as test
use Rattle.expr_tree.specs.declared.tree.Expr.{Expr, roll-Expr, map-Expr, ind-Expr}
use Rattle.expr_tree.specs.Depth.{depth_of_node, depth_of_test}
use Rattle.expr_tree.specs.Rewritten.{Rules, Outcome, tree_of, first_of, answered, over_one, over_two, made_tree, made_test, too_deep, node_outcome, test_outcome, outcome_of, outcome_of_node, outcome_of_test}
use Rattle.expr_tree.specs.Keeping.{Parts, parts_of_node, parts_of_test, is_made_of, node_is_made_of, test_is_made_of}
use Rattle.expr_tree.proofs.Layers.{outcome_node, outcome_test, outcome_expr, made_node, made_expr}
use Rattle.expr_tree.proofs.Layers.{made_test as test_is_made}
use Rattle.subst_rules.proofs.Bools.{first_of_both, second_of_both}

-- where neither of two refuses
pub first_none : (o p : Option ExprFault) → first_of o p ≡ None → o ≡ None
first_none None p is = refl
first_none (Some f) p is = is

pub second_none : (o p : Option ExprFault) → first_of o p ≡ None → p ≡ None
second_none None p is = is
second_none (Some f) p is = absurd (cc)

-- ---- rewritings that agree

-- the same is put where the first does not refuse
abbrev pub Agrees : {T : Type 0} → Result (Option T) ExprFault → Result (Option T) ExprFault → T → Type 0
Agrees one two old = (answered one old).refusal ≡ None → (answered one old).new ≡ (answered two old).new

module _ (r s : Rules) (leaf_same : (n : Node) → Agrees (r.leaf n) (s.leaf n) (tree_of n)) (form_same : (q : Quasi) → Agrees (r.form q) (s.form q) q) (over_same : (is : List ℕ) → Agrees (r.over is) (s.over is) is) where
  abbrev SameNode : Node → Type 0
  SameNode n = (outcome_of_node r n).refusal ≡ None → (outcome_of_node r n).new ≡ (outcome_of_node s n).new

  abbrev SameTest : Test → Type 0
  SameTest t = (outcome_of_test r t).refusal ≡ None → (outcome_of_test r t).new ≡ (outcome_of_test s t).new

  abbrev SameExpr : Expr → Type 0
  SameExpr e = (outcome_of r e).refusal ≡ None → (outcome_of r e).new ≡ (outcome_of s e).new

  node_at : (n : Node-F Node Test Expr) → ((node_outcome r (map-Node _ _ _ _ _ _ (outcome_of_node r) (outcome_of_test r) (outcome_of r) n)).refusal ≡ None
      → (node_outcome r (map-Node _ _ _ _ _ _ (outcome_of_node r) (outcome_of_test r) (outcome_of r) n)).new ≡ (node_outcome s (map-Node _ _ _ _ _ _ (outcome_of_node s) (outcome_of_test s) (outcome_of s) n)).new) → SameNode (roll-Node n)
  node_at n h none = ap (λ (o : Outcome Expr). o.new) (outcome_node r n) ∙ (h (ap (λ (o : Outcome Expr). o.refusal) (sym (outcome_node r n)) ∙ none) ∙ ap (λ (o : Outcome Expr). o.new) (sym (outcome_node s n)))

  test_at : (t : Test-F Node Test Expr) → ((test_outcome r (map-Test _ _ _ _ _ _ (outcome_of_node r) (outcome_of_test r) (outcome_of r) t)).refusal ≡ None
      → (test_outcome r (map-Test _ _ _ _ _ _ (outcome_of_node r) (outcome_of_test r) (outcome_of r) t)).new ≡ (test_outcome s (map-Test _ _ _ _ _ _ (outcome_of_node s) (outcome_of_test s) (outcome_of s) t)).new) → SameTest (roll-Test t)
  test_at t h none = ap (λ (o : Outcome Test). o.new) (outcome_test r t) ∙ (h (ap (λ (o : Outcome Test). o.refusal) (sym (outcome_test r t)) ∙ none) ∙ ap (λ (o : Outcome Test). o.new) (sym (outcome_test s t)))

  expr_at : (e : Expr-F Node Test Expr) → SameNode e.node → SameExpr (roll-Expr e)
  expr_at e h none = ap (λ (o : Outcome Expr). o.new) (outcome_expr r e) ∙ (h (ap (λ (o : Outcome Expr). o.refusal) (sym (outcome_expr r e)) ∙ none) ∙ ap (λ (o : Outcome Expr). o.new) (sym (outcome_expr s e)))

  node_case : (y : Node-F ((n : Node) × SameNode n) ((t : Test) × SameTest t) ((e : Expr) × SameExpr e)) → SameNode (roll-Node (map-Node _ _ _ _ _ _ (λ e. e.0) (λ e. e.0) (λ e. e.0) y))
  node_case (Node-F.Literal n) = node_at (Node-F.Literal n) (leaf_same (node.Literal n))
  node_case (Node-F.Leaf form) = node_at (Node-F.Leaf form) (leaf_same (node.Leaf form))
  node_case (Node-F.Read cell place) = node_at (Node-F.Read cell place) (leaf_same (node.Read cell place))
  node_case (Node-F.Call rule arguments) = node_at (Node-F.Call rule arguments) (leaf_same (node.Call rule arguments))
  node_case (Node-F.Neg a) = node_at (Node-F.Neg a.0) (λ none. ap (λ (x : Expr). tree_of (node.Neg x)) (a.1 (first_none _ _ none)))
  node_case (Node-F.Inv a) = node_at (Node-F.Inv a.0) (λ none. ap (λ (x : Expr). tree_of (node.Inv x)) (a.1 (first_none _ _ none)))
  node_case (Node-F.Shl a by) = node_at (Node-F.Shl a.0 by) (λ none. ap (λ (x : Expr). tree_of (node.Shl x by)) (a.1 (first_none _ _ none)))
  node_case (Node-F.Shr a by) = node_at (Node-F.Shr a.0 by) (λ none. ap (λ (x : Expr). tree_of (node.Shr x by)) (a.1 (first_none _ _ none)))
  node_case (Node-F.Bin op a b) = node_at (Node-F.Bin op a.0 b.0) (λ none. let parts = first_none _ _ none in ap₂ (λ (x y : Expr). tree_of (node.Bin op x y)) (a.1 (first_none _ _ parts)) (b.1 (second_none (outcome_of r a.0).refusal (outcome_of r b.0).refusal parts)))
  node_case (Node-F.Pick t a b) = node_at (Node-F.Pick t.0 a.0 b.0) (λ none.
      let parts = first_none _ _ none in
      let sides = second_none (outcome_of_test r t.0).refusal (first_of (outcome_of r a.0).refusal (outcome_of r b.0).refusal) parts in
      ap (λ (p : Test). tree_of (node.Pick p (outcome_of r a.0).new (outcome_of r b.0).new)) (t.1 (first_none _ _ parts))
      ∙ ap₂ (λ (x y : Expr). tree_of (node.Pick (outcome_of_test s t.0).new x y)) (a.1 (first_none _ _ sides)) (b.1 (second_none (outcome_of r a.0).refusal (outcome_of r b.0).refusal sides)))
  node_case (Node-F.Cast kind a) = node_at (Node-F.Cast kind a.0) (λ none. ap (λ (x : Expr). tree_of (node.Cast kind x)) (a.1 (first_none _ _ none)))
  node_case (Node-F.Fold op inames a) = node_at (Node-F.Fold op inames a.0) (λ none.
      let parts = first_none _ _ none in
      ap₂ (λ (x : Expr) (is : List ℕ). tree_of (node.Fold op is x)) (a.1 (first_none _ _ parts)) (over_same inames (second_none (outcome_of r a.0).refusal (answered (r.over inames) inames).refusal parts)))

  test_case : (y : Test-F ((n : Node) × SameNode n) ((t : Test) × SameTest t) ((e : Expr) × SameExpr e)) → SameTest (roll-Test (map-Test _ _ _ _ _ _ (λ e. e.0) (λ e. e.0) (λ e. e.0) y))
  test_case (Test-F.Words rel a b) = test_at (Test-F.Words rel a.0 b.0) (λ none. let parts = first_none _ _ none in ap₂ (λ (x y : Expr). test.Words rel x y) (a.1 (first_none _ _ parts)) (b.1 (second_none (outcome_of r a.0).refusal (outcome_of r b.0).refusal parts)))
  test_case (Test-F.Index rel a b) = test_at (Test-F.Index rel a b) (λ none. ap₂ (λ (x y : Quasi). test.Index rel x y) (form_same a (first_none _ _ none)) (form_same b (second_none (answered (r.form a) a).refusal (answered (r.form b) b).refusal none)))
  test_case (Test-F.All p q) = test_at (Test-F.All p.0 q.0) (λ none. let parts = first_none _ _ none in ap₂ (λ (x y : Test). test.All x y) (p.1 (first_none _ _ parts)) (q.1 (second_none (outcome_of_test r p.0).refusal (outcome_of_test r q.0).refusal parts)))
  test_case (Test-F.Any p q) = test_at (Test-F.Any p.0 q.0) (λ none. let parts = first_none _ _ none in ap₂ (λ (x y : Test). test.Any x y) (p.1 (first_none _ _ parts)) (q.1 (second_none (outcome_of_test r p.0).refusal (outcome_of_test r q.0).refusal parts)))
  test_case (Test-F.Not p) = test_at (Test-F.Not p.0) (λ none. ap (λ (x : Test). test.Not x) (p.1 (first_none _ _ none)))

  expr_case : (y : Expr-F ((n : Node) × SameNode n) ((t : Test) × SameTest t) ((e : Expr) × SameExpr e)) → SameExpr (roll-Expr (map-Expr _ _ _ _ _ _ (λ e. e.0) (λ e. e.0) (λ e. e.0) y))
  expr_case y = expr_at (map-Expr _ _ _ _ _ _ (λ e. e.0) (λ e. e.0) (λ e. e.0) y) y.node.1

  pub agree : (e : Expr) → SameExpr e
  agree = ind-Expr SameNode SameTest SameExpr
      (λ x y is. subst (λ z. SameNode (roll-Node z)) is (node_case y))
      (λ x y is. subst (λ z. SameTest (roll-Test z)) is (test_case y))
      (λ x y is. subst (λ z. SameExpr (roll-Expr z)) is (expr_case y))

  pub agree_on_tests : (t : Test) → SameTest t
  agree_on_tests = ind-Test SameNode SameTest SameExpr
      (λ x y is. subst (λ z. SameNode (roll-Node z)) is (node_case y))
      (λ x y is. subst (λ z. SameTest (roll-Test z)) is (test_case y))
      (λ x y is. subst (λ z. SameExpr (roll-Expr z)) is (expr_case y))

-- ---- rewritings that put nothing

-- nothing is put in the part or below it, and nothing refused
pub record Quiet {T : Type 0} (o : Outcome T) : Type 0 where
  pub changed : o.changed ≡ false
  pub refusal : o.refusal ≡ None

neither : (p q : Bool) → p ≡ false → q ≡ false → (p || q) ≡ false
neither true q h k = absurd (cc)
neither false q h k = k

no_first : (o p : Option ExprFault) → o ≡ None → p ≡ None → first_of o p ≡ None
no_first None p h k = k
no_first (Some f) p h k = absurd (cc)

put_nothing : (T : Type 0) (a : Result (Option T) ExprFault) (old : T) → a ≡ Ok None → Quiet (answered a old)
put_nothing T a old is = record { changed = ap (λ (x : Result (Option T) ExprFault). (answered x old).changed) is; refusal = ap (λ (x : Result (Option T) ExprFault). (answered x old).refusal) is }

module _ (r : Rules) (p : Parts) (leaf_quiet : (n : Node) → p.leaf n ≡ true → r.leaf n ≡ Ok None) (form_quiet : (q : Quasi) → p.form q ≡ true → r.form q ≡ Ok None) (over_quiet : (is : List ℕ) → p.over is ≡ true → r.over is ≡ Ok None) where
  abbrev QuietNode : Node → Type 0
  QuietNode n = node_is_made_of p n ≡ true → Quiet (outcome_of_node r n)

  abbrev QuietTest : Test → Type 0
  QuietTest t = test_is_made_of p t ≡ true → Quiet (outcome_of_test r t)

  abbrev QuietExpr : Expr → Type 0
  QuietExpr e = is_made_of p e ≡ true → Quiet (outcome_of r e)

  quiet_node_at : (n : Node-F Node Test Expr) → (parts_of_node p (map-Node _ _ _ _ _ _ (node_is_made_of p) (test_is_made_of p) (is_made_of p) n) ≡ true
      → Quiet (node_outcome r (map-Node _ _ _ _ _ _ (outcome_of_node r) (outcome_of_test r) (outcome_of r) n))) → QuietNode (roll-Node n)
  quiet_node_at n h made = subst (λ (o : Outcome Expr). Quiet o) (sym (outcome_node r n)) (h (sym (made_node p n) ∙ made))

  quiet_test_at : (t : Test-F Node Test Expr) → (parts_of_test p (map-Test _ _ _ _ _ _ (node_is_made_of p) (test_is_made_of p) (is_made_of p) t) ≡ true
      → Quiet (test_outcome r (map-Test _ _ _ _ _ _ (outcome_of_node r) (outcome_of_test r) (outcome_of r) t))) → QuietTest (roll-Test t)
  quiet_test_at t h made = subst (λ (o : Outcome Test). Quiet o) (sym (outcome_test r t)) (h (sym (test_is_made p t) ∙ made))

  quiet_expr_at : (e : Expr-F Node Test Expr) → QuietNode e.node → QuietExpr (roll-Expr e)
  quiet_expr_at e h made = subst (λ (o : Outcome Expr). Quiet o) (sym (outcome_expr r e)) (h (sym (made_expr p e) ∙ made))

  -- a node or a test over quiet parts
  whole : (o : Outcome Node) → Quiet o → Quiet (made_tree o)
  whole o q = record { changed = q.changed; refusal = no_first o.refusal _ q.refusal (ap (λ (b : Bool). if b then too_deep (depth_of_node o.new) else None) q.changed) }

  whole_test : (o : Outcome Test) → Quiet o → Quiet (made_test o)
  whole_test o q = record { changed = q.changed; refusal = no_first o.refusal _ q.refusal (ap (λ (b : Bool). if b then too_deep (depth_of_test o.new) else None) q.changed) }

  one_part : (A T : Type 0) (f : A → T) (a : Outcome A) → Quiet a → Quiet (over_one f a)
  one_part A T f a q = record { changed = q.changed; refusal = q.refusal }

  two_parts : (A B T : Type 0) (f : A → B → T) (a : Outcome A) (b : Outcome B) → Quiet a → Quiet b → Quiet (over_two f a b)
  two_parts A B T f a b q k = record { changed = neither a.changed b.changed q.changed k.changed; refusal = no_first a.refusal b.refusal q.refusal k.refusal }

  quiet_node : (y : Node-F ((n : Node) × QuietNode n) ((t : Test) × QuietTest t) ((e : Expr) × QuietExpr e)) → QuietNode (roll-Node (map-Node _ _ _ _ _ _ (λ e. e.0) (λ e. e.0) (λ e. e.0) y))
  quiet_node (Node-F.Literal n) = quiet_node_at (Node-F.Literal n) (λ made. put_nothing Expr (r.leaf (node.Literal n)) (tree_of (node.Literal n)) (leaf_quiet (node.Literal n) made))
  quiet_node (Node-F.Leaf form) = quiet_node_at (Node-F.Leaf form) (λ made. put_nothing Expr (r.leaf (node.Leaf form)) (tree_of (node.Leaf form)) (leaf_quiet (node.Leaf form) made))
  quiet_node (Node-F.Read cell place) = quiet_node_at (Node-F.Read cell place) (λ made. put_nothing Expr (r.leaf (node.Read cell place)) (tree_of (node.Read cell place)) (leaf_quiet (node.Read cell place) made))
  quiet_node (Node-F.Call rule arguments) = quiet_node_at (Node-F.Call rule arguments) (λ made. put_nothing Expr (r.leaf (node.Call rule arguments)) (tree_of (node.Call rule arguments)) (leaf_quiet (node.Call rule arguments) made))
  quiet_node (Node-F.Neg a) = quiet_node_at (Node-F.Neg a.0) (λ made. whole (over_one node.Neg (outcome_of r a.0)) (one_part Expr Node node.Neg (outcome_of r a.0) (a.1 made)))
  quiet_node (Node-F.Inv a) = quiet_node_at (Node-F.Inv a.0) (λ made. whole (over_one node.Inv (outcome_of r a.0)) (one_part Expr Node node.Inv (outcome_of r a.0) (a.1 made)))
  quiet_node (Node-F.Shl a by) = quiet_node_at (Node-F.Shl a.0 by) (λ made. whole (over_one (λ x. node.Shl x by) (outcome_of r a.0)) (one_part Expr Node (λ x. node.Shl x by) (outcome_of r a.0) (a.1 made)))
  quiet_node (Node-F.Shr a by) = quiet_node_at (Node-F.Shr a.0 by) (λ made. whole (over_one (λ x. node.Shr x by) (outcome_of r a.0)) (one_part Expr Node (λ x. node.Shr x by) (outcome_of r a.0) (a.1 made)))
  quiet_node (Node-F.Bin op a b) = quiet_node_at (Node-F.Bin op a.0 b.0) (λ made. whole (over_two (node.Bin op) (outcome_of r a.0) (outcome_of r b.0))
      (two_parts Expr Expr Node (node.Bin op) (outcome_of r a.0) (outcome_of r b.0) (a.1 (first_of_both (is_made_of p a.0) (is_made_of p b.0) made)) (b.1 (second_of_both (is_made_of p a.0) (is_made_of p b.0) made))))
  quiet_node (Node-F.Pick t a b) = quiet_node_at (Node-F.Pick t.0 a.0 b.0) (λ made.
      let sides = second_of_both (test_is_made_of p t.0) (is_made_of p a.0 && is_made_of p b.0) made in
      let pair = over_two (λ (x y : Expr). (x, y)) (outcome_of r a.0) (outcome_of r b.0) in
      let all = λ (u : Test) (xy : Expr × Expr). node.Pick u xy.0 xy.1 in
      whole (over_two all (outcome_of_test r t.0) pair)
      (two_parts Test (Expr × Expr) Node all (outcome_of_test r t.0) pair (t.1 (first_of_both (test_is_made_of p t.0) (is_made_of p a.0 && is_made_of p b.0) made))
      (two_parts Expr Expr (Expr × Expr) (λ (x y : Expr). (x, y)) (outcome_of r a.0) (outcome_of r b.0) (a.1 (first_of_both (is_made_of p a.0) (is_made_of p b.0) sides)) (b.1 (second_of_both (is_made_of p a.0) (is_made_of p b.0) sides)))))
  quiet_node (Node-F.Cast kind a) = quiet_node_at (Node-F.Cast kind a.0) (λ made. whole (over_one (node.Cast kind) (outcome_of r a.0)) (one_part Expr Node (node.Cast kind) (outcome_of r a.0) (a.1 made)))
  quiet_node (Node-F.Fold op inames a) = quiet_node_at (Node-F.Fold op inames a.0) (λ made.
      let all = λ (x : Expr) (is : List ℕ). node.Fold op is x in
      whole (over_two all (outcome_of r a.0) (answered (r.over inames) inames))
      (two_parts Expr (List ℕ) Node all (outcome_of r a.0) (answered (r.over inames) inames) (a.1 (second_of_both (p.over inames) (is_made_of p a.0) made))
      (put_nothing (List ℕ) (r.over inames) inames (over_quiet inames (first_of_both (p.over inames) (is_made_of p a.0) made)))))

  quiet_test : (y : Test-F ((n : Node) × QuietNode n) ((t : Test) × QuietTest t) ((e : Expr) × QuietExpr e)) → QuietTest (roll-Test (map-Test _ _ _ _ _ _ (λ e. e.0) (λ e. e.0) (λ e. e.0) y))
  quiet_test (Test-F.Words rel a b) = quiet_test_at (Test-F.Words rel a.0 b.0) (λ made. whole_test (over_two (test.Words rel) (outcome_of r a.0) (outcome_of r b.0))
      (two_parts Expr Expr Test (test.Words rel) (outcome_of r a.0) (outcome_of r b.0) (a.1 (first_of_both (is_made_of p a.0) (is_made_of p b.0) made)) (b.1 (second_of_both (is_made_of p a.0) (is_made_of p b.0) made))))
  quiet_test (Test-F.Index rel a b) = quiet_test_at (Test-F.Index rel a b) (λ made. two_parts Quasi Quasi Test (test.Index rel) (answered (r.form a) a) (answered (r.form b) b)
      (put_nothing Quasi (r.form a) a (form_quiet a (first_of_both (p.form a) (p.form b) made))) (put_nothing Quasi (r.form b) b (form_quiet b (second_of_both (p.form a) (p.form b) made))))
  quiet_test (Test-F.All a b) = quiet_test_at (Test-F.All a.0 b.0) (λ made. whole_test (over_two test.All (outcome_of_test r a.0) (outcome_of_test r b.0))
      (two_parts Test Test Test test.All (outcome_of_test r a.0) (outcome_of_test r b.0) (a.1 (first_of_both (test_is_made_of p a.0) (test_is_made_of p b.0) made)) (b.1 (second_of_both (test_is_made_of p a.0) (test_is_made_of p b.0) made))))
  quiet_test (Test-F.Any a b) = quiet_test_at (Test-F.Any a.0 b.0) (λ made. whole_test (over_two test.Any (outcome_of_test r a.0) (outcome_of_test r b.0))
      (two_parts Test Test Test test.Any (outcome_of_test r a.0) (outcome_of_test r b.0) (a.1 (first_of_both (test_is_made_of p a.0) (test_is_made_of p b.0) made)) (b.1 (second_of_both (test_is_made_of p a.0) (test_is_made_of p b.0) made))))
  quiet_test (Test-F.Not a) = quiet_test_at (Test-F.Not a.0) (λ made. whole_test (over_one test.Not (outcome_of_test r a.0)) (one_part Test Test test.Not (outcome_of_test r a.0) (a.1 made)))

  quiet_expr : (y : Expr-F ((n : Node) × QuietNode n) ((t : Test) × QuietTest t) ((e : Expr) × QuietExpr e)) → QuietExpr (roll-Expr (map-Expr _ _ _ _ _ _ (λ e. e.0) (λ e. e.0) (λ e. e.0) y))
  quiet_expr y = quiet_expr_at (map-Expr _ _ _ _ _ _ (λ e. e.0) (λ e. e.0) (λ e. e.0) y) y.node.1

  pub quiet : (e : Expr) → QuietExpr e
  quiet = ind-Expr QuietNode QuietTest QuietExpr
      (λ x y is. subst (λ z. QuietNode (roll-Node z)) is (quiet_node y))
      (λ x y is. subst (λ z. QuietTest (roll-Test z)) is (quiet_test y))
      (λ x y is. subst (λ z. QuietExpr (roll-Expr z)) is (quiet_expr y))

  pub quiet_on_tests : (t : Test) → QuietTest t
  quiet_on_tests = ind-Test QuietNode QuietTest QuietExpr
      (λ x y is. subst (λ z. QuietNode (roll-Node z)) is (quiet_node y))
      (λ x y is. subst (λ z. QuietTest (roll-Test z)) is (quiet_test y))
      (λ x y is. subst (λ z. QuietExpr (roll-Expr z)) is (quiet_expr y))
