-- A rewriting that keeps what parts mean keeps what trees mean.
use Rattle.std.specs.Prelude.{◌≡◌, ℕ, ℤ, Bool, true, ◌&&◌, List, [], ◌∷◌, map, Option, Some, None, unwrap_or, Result, Ok, Err}
use Rattle.std.specs.List.{list_all}
use Rattle.std.proofs.Common.{refl, sym, ap, ap₂, ◌∙◌, subst}
use Rattle.wrap_words.specs.declared.kind.Kind.{Kind}
use Rattle.affine_rows.specs.declared.quasi.Quasi.{Quasi}
use Rattle.affine_rows.specs.Forms.{form_at}
use Rattle.expr_tree.specs.declared.build.ExprFault.{ExprFault}
use Rattle.expr_tree.specs.declared.tree.Op.{Op}
use Rattle.expr_tree.specs.declared.tree.Node.{Node, roll-Node, map-Node}
use Rattle.expr_tree.specs.declared.tree.Node.TheOpen.{Node-F, Test-F, Expr-F}
use Rattle.expr_tree.specs.declared.tree.Node.TheVariants as node
use Rattle.expr_tree.specs.declared.tree.Test.{Test, roll-Test, map-Test, ind-Test}
use Rattle.expr_tree.specs.declared.tree.Expr.{Expr, roll-Expr, map-Expr, ind-Expr}
use Rattle.expr_tree.specs.Value.{Sense, TestSense, node_sense, test_sense, compares}
use Rattle.expr_tree.specs.Scenes.{Scene}
use Rattle.expr_tree.specs.Meaning.{World, node_meaning, test_meaning, meaning_of, meaning_of_node, meaning_of_test, reduced}
use Rattle.expr_tree.specs.Rewritten.{Rules, Outcome, tree_of, first_of, answered, node_outcome, test_outcome, outcome_of, outcome_of_node, outcome_of_test}
use Rattle.expr_tree.specs.Keeping.{KeepsTheValue, KeepsTheTest, Parts, Keeps, parts_of_node, parts_of_test, is_made_of, node_is_made_of, test_is_made_of}
use Rattle.expr_tree.proofs.Layers.{meaning_node, meaning_test, meaning_expr, outcome_node, outcome_test, outcome_expr, made_node, made_test, made_expr, left, right}
use Rattle.expr_tree.proofs.Equations.{meaning-tree, meaning-Literal, meaning-Leaf, meaning-Read, meaning-Call, meaning-Neg, meaning-Inv, meaning-Shl, meaning-Shr, meaning-Bin, meaning-Pick, meaning-Cast, meaning-Fold, meaning-Words, meaning-Index, meaning-All, meaning-Any, meaning-Not}

-- where neither of two refuses
first_none : (o p : Option ExprFault) → first_of o p ≡ None → o ≡ None
first_none None p is = refl
first_none (Some f) p is = is

second_none : (o p : Option ExprFault) → first_of o p ≡ None → p ≡ None
second_none None p is = is
second_none (Some f) p is = absurd (cc)

-- what is put for a part that is not refused
record Put {T : Type 0} (answer : Result (Option T) ExprFault) (old : T) : Type 0 where
  put : Option T
  is : answer ≡ Ok put
  new : (answered answer old).new ≡ unwrap_or put old

put_of : {T : Type 0} (answer : Result (Option T) ExprFault) (old : T) → (answered answer old).refusal ≡ None → Put answer old
put_of (Ok put) old is = record { put = put; is = refl; new = refl }
put_of (Err f) old is = absurd (cc)

module _ (r : Rules) (p : Parts) (old new : World) (counts : Scene → Bool) (back : Scene → Scene) where
  abbrev KeepsNode : Node → Type 0
  KeepsNode n = node_is_made_of p n ≡ true → (outcome_of_node r n).refusal ≡ None → (at : Scene) → counts at ≡ true → meaning_of new (outcome_of_node r n).new at ≡ meaning_of_node old n (back at)

  abbrev KeepsTest : Test → Type 0
  KeepsTest t = test_is_made_of p t ≡ true → (outcome_of_test r t).refusal ≡ None → (at : Scene) → counts at ≡ true → meaning_of_test new (outcome_of_test r t).new at ≡ meaning_of_test old t (back at)

  abbrev KeepsExpr : Expr → Type 0
  KeepsExpr e = is_made_of p e ≡ true → (outcome_of r e).refusal ≡ None → (at : Scene) → counts at ≡ true → meaning_of new (outcome_of r e).new at ≡ meaning_of old e (back at)

  -- the same of what the layer makes
  abbrev NodeLayer : Node-F Node Test Expr → Type 0
  NodeLayer n = parts_of_node p (map-Node _ _ _ _ _ _ (node_is_made_of p) (test_is_made_of p) (is_made_of p) n) ≡ true
      → (node_outcome r (map-Node _ _ _ _ _ _ (outcome_of_node r) (outcome_of_test r) (outcome_of r) n)).refusal ≡ None
      → (at : Scene) → counts at ≡ true
      → meaning_of new (node_outcome r (map-Node _ _ _ _ _ _ (outcome_of_node r) (outcome_of_test r) (outcome_of r) n)).new at ≡ node_meaning old (map-Node _ _ _ _ _ _ (meaning_of_node old) (meaning_of_test old) (meaning_of old) n) (back at)

  abbrev TestLayer : Test-F Node Test Expr → Type 0
  TestLayer t = parts_of_test p (map-Test _ _ _ _ _ _ (node_is_made_of p) (test_is_made_of p) (is_made_of p) t) ≡ true
      → (test_outcome r (map-Test _ _ _ _ _ _ (outcome_of_node r) (outcome_of_test r) (outcome_of r) t)).refusal ≡ None
      → (at : Scene) → counts at ≡ true
      → meaning_of_test new (test_outcome r (map-Test _ _ _ _ _ _ (outcome_of_node r) (outcome_of_test r) (outcome_of r) t)).new at ≡ test_meaning old (map-Test _ _ _ _ _ _ (meaning_of_node old) (meaning_of_test old) (meaning_of old) t) (back at)

  node_at : (n : Node-F Node Test Expr) → NodeLayer n → KeepsNode (roll-Node n)
  node_at n h made none at in_ =
      ap (λ (o : Outcome Expr). meaning_of new o.new at) (outcome_node r n)
      ∙ (h (sym (made_node p n) ∙ made) (ap (λ (o : Outcome Expr). o.refusal) (sym (outcome_node r n)) ∙ none) at in_
      ∙ ap (λ (f : Scene → Sense). f (back at)) (sym (meaning_node old n)))

  test_at : (t : Test-F Node Test Expr) → TestLayer t → KeepsTest (roll-Test t)
  test_at t h made none at in_ =
      ap (λ (o : Outcome Test). meaning_of_test new o.new at) (outcome_test r t)
      ∙ (h (sym (made_test p t) ∙ made) (ap (λ (o : Outcome Test). o.refusal) (sym (outcome_test r t)) ∙ none) at in_
      ∙ ap (λ (f : Scene → TestSense). f (back at)) (sym (meaning_test old t)))

  expr_at : (e : Expr-F Node Test Expr) → KeepsNode e.node → KeepsExpr (roll-Expr e)
  expr_at e h made none at in_ =
      ap (λ (o : Outcome Expr). meaning_of new o.new at) (outcome_expr r e)
      ∙ (h (sym (made_expr p e) ∙ made) (ap (λ (o : Outcome Expr). o.refusal) (sym (outcome_expr r e)) ∙ none) at in_
      ∙ ap (λ (f : Scene → Sense). f (back at)) (sym (meaning_expr old e)))

  -- a new node's meaning
  new_node : (n : Node) (layer : Scene → Sense) (at : Scene) → meaning_of_node new n ≡ layer → meaning_of new (tree_of n) at ≡ layer at
  new_node n layer at is = ap (λ (f : Scene → Sense). f at) (meaning-tree new n ∙ is)

  module _ (keeps : Keeps r p old new counts back) where
    leaf_case : (n : Node) (layer : Scene → Sense) → meaning_of_node old n ≡ layer → p.leaf n ≡ true → (answered (r.leaf n) (tree_of n)).refusal ≡ None → (at : Scene) → counts at ≡ true → meaning_of new (answered (r.leaf n) (tree_of n)).new at ≡ layer (back at)
    leaf_case n layer is made none at in_ =
        let found = put_of (r.leaf n) (tree_of n) none in
        ap (λ (e : Expr). meaning_of new e at) found.new
        ∙ (keeps.leaf n found.put at made found.is in_ ∙ ap (λ (f : Scene → Sense). f (back at)) is)

    form_case : (q : Quasi) → p.form q ≡ true → (answered (r.form q) q).refusal ≡ None → (at : Scene) → counts at ≡ true → form_at at.env (answered (r.form q) q).new ≡ form_at (back at).env q
    form_case q made none at in_ =
        let found = put_of (r.form q) q none in
        ap (form_at at.env) found.new ∙ keeps.form q found.put at made found.is in_

    -- what is meant at each point
    at_points : (f g : Scene → Sense) → ((at : Scene) → counts at ≡ true → f at ≡ g (back at)) → (xs : List Scene) → list_all counts xs ≡ true → map f xs ≡ map g (map back xs)
    at_points f g same [] all = refl
    at_points f g same (x ∷ xs) all = ap₂ (λ (s : Sense) (ss : List Sense). s ∷ ss) (same x (left (counts x) (list_all counts xs) all)) (at_points f g same xs (right (counts x) (list_all counts xs) all))

    fold_case : (op : Op) (inames : List ℕ) (a : Expr) (x : Expr) → ((at : Scene) → counts at ≡ true → meaning_of new x at ≡ meaning_of old a (back at)) → p.over inames ≡ true → (answered (r.over inames) inames).refusal ≡ None → (at : Scene) → counts at ≡ true
        → reduced op (meaning_of new x at).first (map (meaning_of new x) (new.points (answered (r.over inames) inames).new at)) ≡ reduced op (meaning_of old a (back at)).first (map (meaning_of old a) (old.points inames (back at)))
    fold_case op inames a x same made none at in_ =
        let found = put_of (r.over inames) inames none in
        let points = ap (λ (is : List ℕ). new.points is at) found.new in
        let within = ap (list_all counts) points ∙ keeps.within inames found.put at made found.is in_ in
        let old_points = ap (map back) points ∙ keeps.points inames found.put at made found.is in_ in
        ap₂ (λ (s : Sense) (ss : List Sense). reduced op s.first ss) (same at in_)
        (at_points (meaning_of new x) (meaning_of old a) same (new.points (answered (r.over inames) inames).new at) within ∙ ap (map (meaning_of old a)) old_points)

    node_case : (y : Node-F ((n : Node) × KeepsNode n) ((t : Test) × KeepsTest t) ((e : Expr) × KeepsExpr e)) → KeepsNode (roll-Node (map-Node _ _ _ _ _ _ (λ e. e.0) (λ e. e.0) (λ e. e.0) y))
    node_case (Node-F.Literal n) = node_at (Node-F.Literal n) (leaf_case (node.Literal n) (node_meaning old (Node-F.Literal n)) (meaning-Literal old n))
    node_case (Node-F.Leaf form) = node_at (Node-F.Leaf form) (leaf_case (node.Leaf form) (node_meaning old (Node-F.Leaf form)) (meaning-Leaf old form))
    node_case (Node-F.Read cell place) = node_at (Node-F.Read cell place) (leaf_case (node.Read cell place) (node_meaning old (Node-F.Read cell place)) (meaning-Read old cell place))
    node_case (Node-F.Call rule arguments) = node_at (Node-F.Call rule arguments) (leaf_case (node.Call rule arguments) (node_meaning old (Node-F.Call rule arguments)) (meaning-Call old rule arguments))
    node_case (Node-F.Neg a) = node_at (Node-F.Neg a.0) (λ made none at in_.
        let x = (outcome_of r a.0).new in
        new_node (node.Neg x) (node_meaning new (Node-F.Neg (meaning_of new x))) at (meaning-Neg new x)
        ∙ ap (λ (s : Sense). node_sense at.env new.store (Node-F.Neg s)) (a.1 made (first_none _ _ none) at in_))
    node_case (Node-F.Inv a) = node_at (Node-F.Inv a.0) (λ made none at in_.
        let x = (outcome_of r a.0).new in
        new_node (node.Inv x) (node_meaning new (Node-F.Inv (meaning_of new x))) at (meaning-Inv new x)
        ∙ ap (λ (s : Sense). node_sense at.env new.store (Node-F.Inv s)) (a.1 made (first_none _ _ none) at in_))
    node_case (Node-F.Shl a by) = node_at (Node-F.Shl a.0 by) (λ made none at in_.
        let x = (outcome_of r a.0).new in
        new_node (node.Shl x by) (node_meaning new (Node-F.Shl (meaning_of new x) by)) at (meaning-Shl new x by)
        ∙ ap (λ (s : Sense). node_sense at.env new.store (Node-F.Shl s by)) (a.1 made (first_none _ _ none) at in_))
    node_case (Node-F.Shr a by) = node_at (Node-F.Shr a.0 by) (λ made none at in_.
        let x = (outcome_of r a.0).new in
        new_node (node.Shr x by) (node_meaning new (Node-F.Shr (meaning_of new x) by)) at (meaning-Shr new x by)
        ∙ ap (λ (s : Sense). node_sense at.env new.store (Node-F.Shr s by)) (a.1 made (first_none _ _ none) at in_))
    node_case (Node-F.Bin op a b) = node_at (Node-F.Bin op a.0 b.0) (λ made none at in_.
        let x = (outcome_of r a.0).new in
        let y = (outcome_of r b.0).new in
        let below = first_none _ _ none in
        new_node (node.Bin op x y) (node_meaning new (Node-F.Bin op (meaning_of new x) (meaning_of new y))) at (meaning-Bin new op x y)
        ∙ ap₂ (λ (s u : Sense). node_sense at.env new.store (Node-F.Bin op s u))
        (a.1 (left (is_made_of p a.0) (is_made_of p b.0) made) (first_none (outcome_of r a.0).refusal (outcome_of r b.0).refusal below) at in_)
        (b.1 (right (is_made_of p a.0) (is_made_of p b.0) made) (second_none (outcome_of r a.0).refusal (outcome_of r b.0).refusal below) at in_))
    node_case (Node-F.Pick t a b) = node_at (Node-F.Pick t.0 a.0 b.0) (λ made none at in_.
        let z = (outcome_of_test r t.0).new in
        let x = (outcome_of r a.0).new in
        let y = (outcome_of r b.0).new in
        let below = first_none _ _ none in
        let made_both = right (test_is_made_of p t.0) (is_made_of p a.0 && is_made_of p b.0) made in
        let both = second_none (outcome_of_test r t.0).refusal (first_of (outcome_of r a.0).refusal (outcome_of r b.0).refusal) below in
        new_node (node.Pick z x y) (node_meaning new (Node-F.Pick (meaning_of_test new z) (meaning_of new x) (meaning_of new y))) at (meaning-Pick new z x y)
        ∙ (ap (λ (s : TestSense). node_sense at.env new.store (Node-F.Pick s (meaning_of new x at) (meaning_of new y at)))
        (t.1 (left (test_is_made_of p t.0) (is_made_of p a.0 && is_made_of p b.0) made) (first_none (outcome_of_test r t.0).refusal (first_of (outcome_of r a.0).refusal (outcome_of r b.0).refusal) below) at in_)
        ∙ ap₂ (λ (s u : Sense). node_sense at.env new.store (Node-F.Pick (meaning_of_test old t.0 (back at)) s u))
        (a.1 (left (is_made_of p a.0) (is_made_of p b.0) made_both) (first_none (outcome_of r a.0).refusal (outcome_of r b.0).refusal both) at in_)
        (b.1 (right (is_made_of p a.0) (is_made_of p b.0) made_both) (second_none (outcome_of r a.0).refusal (outcome_of r b.0).refusal both) at in_)))
    node_case (Node-F.Cast kind a) = node_at (Node-F.Cast kind a.0) (λ made none at in_.
        let x = (outcome_of r a.0).new in
        new_node (node.Cast kind x) (node_meaning new (Node-F.Cast kind (meaning_of new x))) at (meaning-Cast new kind x)
        ∙ ap (λ (s : Sense). node_sense at.env new.store (Node-F.Cast kind s)) (a.1 made (first_none _ _ none) at in_))
    node_case (Node-F.Fold op inames a) = node_at (Node-F.Fold op inames a.0) (λ made none at in_.
        let x = (outcome_of r a.0).new in
        let is = (answered (r.over inames) inames).new in
        let below = first_none _ _ none in
        new_node (node.Fold op is x) (node_meaning new (Node-F.Fold op is (meaning_of new x))) at (meaning-Fold new op is x)
        ∙ fold_case op inames a.0 x (a.1 (right (p.over inames) (is_made_of p a.0) made) (first_none (outcome_of r a.0).refusal (answered (r.over inames) inames).refusal below))
        (left (p.over inames) (is_made_of p a.0) made) (second_none (outcome_of r a.0).refusal (answered (r.over inames) inames).refusal below) at in_)

    test_case : (y : Test-F ((n : Node) × KeepsNode n) ((t : Test) × KeepsTest t) ((e : Expr) × KeepsExpr e)) → KeepsTest (roll-Test (map-Test _ _ _ _ _ _ (λ e. e.0) (λ e. e.0) (λ e. e.0) y))
    test_case (Test-F.Words rel a b) = test_at (Test-F.Words rel a.0 b.0) (λ made none at in_.
        let x = (outcome_of r a.0).new in
        let y = (outcome_of r b.0).new in
        let below = first_none _ _ none in
        ap (λ (f : Scene → TestSense). f at) (meaning-Words new rel x y)
        ∙ ap₂ (λ (s u : Sense). test_sense at.env new.store (Test-F.Words rel s u))
        (a.1 (left (is_made_of p a.0) (is_made_of p b.0) made) (first_none (outcome_of r a.0).refusal (outcome_of r b.0).refusal below) at in_)
        (b.1 (right (is_made_of p a.0) (is_made_of p b.0) made) (second_none (outcome_of r a.0).refusal (outcome_of r b.0).refusal below) at in_))
    test_case (Test-F.Index rel a b) = test_at (Test-F.Index rel a b) (λ made none at in_.
        ap (λ (f : Scene → TestSense). f at) (meaning-Index new rel (answered (r.form a) a).new (answered (r.form b) b).new)
        ∙ ap₂ (λ (y z : ℤ). record { has = λ (k : Kind). true; holds = λ (k : Kind). compares rel y z })
        (form_case a (left (p.form a) (p.form b) made) (first_none (answered (r.form a) a).refusal (answered (r.form b) b).refusal none) at in_)
        (form_case b (right (p.form a) (p.form b) made) (second_none (answered (r.form a) a).refusal (answered (r.form b) b).refusal none) at in_))
    test_case (Test-F.All a b) = test_at (Test-F.All a.0 b.0) (λ made none at in_.
        let x = (outcome_of_test r a.0).new in
        let y = (outcome_of_test r b.0).new in
        let below = first_none _ _ none in
        ap (λ (f : Scene → TestSense). f at) (meaning-All new x y)
        ∙ ap₂ (λ (s u : TestSense). test_sense at.env new.store (Test-F.All s u))
        (a.1 (left (test_is_made_of p a.0) (test_is_made_of p b.0) made) (first_none (outcome_of_test r a.0).refusal (outcome_of_test r b.0).refusal below) at in_)
        (b.1 (right (test_is_made_of p a.0) (test_is_made_of p b.0) made) (second_none (outcome_of_test r a.0).refusal (outcome_of_test r b.0).refusal below) at in_))
    test_case (Test-F.Any a b) = test_at (Test-F.Any a.0 b.0) (λ made none at in_.
        let x = (outcome_of_test r a.0).new in
        let y = (outcome_of_test r b.0).new in
        let below = first_none _ _ none in
        ap (λ (f : Scene → TestSense). f at) (meaning-Any new x y)
        ∙ ap₂ (λ (s u : TestSense). test_sense at.env new.store (Test-F.Any s u))
        (a.1 (left (test_is_made_of p a.0) (test_is_made_of p b.0) made) (first_none (outcome_of_test r a.0).refusal (outcome_of_test r b.0).refusal below) at in_)
        (b.1 (right (test_is_made_of p a.0) (test_is_made_of p b.0) made) (second_none (outcome_of_test r a.0).refusal (outcome_of_test r b.0).refusal below) at in_))
    test_case (Test-F.Not a) = test_at (Test-F.Not a.0) (λ made none at in_.
        let x = (outcome_of_test r a.0).new in
        ap (λ (f : Scene → TestSense). f at) (meaning-Not new x)
        ∙ ap (λ (s : TestSense). test_sense at.env new.store (Test-F.Not s)) (a.1 made (first_none _ _ none) at in_))

    expr_case : (y : Expr-F ((n : Node) × KeepsNode n) ((t : Test) × KeepsTest t) ((e : Expr) × KeepsExpr e)) → KeepsExpr (roll-Expr (map-Expr _ _ _ _ _ _ (λ e. e.0) (λ e. e.0) (λ e. e.0) y))
    expr_case y = expr_at (map-Expr _ _ _ _ _ _ (λ e. e.0) (λ e. e.0) (λ e. e.0) y) y.node.1

    pub rewriting_keeps : (e : Expr) → KeepsExpr e
    rewriting_keeps = ind-Expr KeepsNode KeepsTest KeepsExpr
        (λ x y is. subst (λ z. KeepsNode (roll-Node z)) is (node_case y))
        (λ x y is. subst (λ z. KeepsTest (roll-Test z)) is (test_case y))
        (λ x y is. subst (λ z. KeepsExpr (roll-Expr z)) is (expr_case y))

    pub rewriting_keeps_tests : (t : Test) → KeepsTest t
    rewriting_keeps_tests = ind-Test KeepsNode KeepsTest KeepsExpr
        (λ x y is. subst (λ z. KeepsNode (roll-Node z)) is (node_case y))
        (λ x y is. subst (λ z. KeepsTest (roll-Test z)) is (test_case y))
        (λ x y is. subst (λ z. KeepsExpr (roll-Expr z)) is (expr_case y))

pub keeps_the_value : (r : Rules) (e : Expr) → (outcome_of r e).refusal ≡ None → KeepsTheValue r e (outcome_of r e).new
keeps_the_value r e none p old new counts back keeps made = rewriting_keeps r p old new counts back keeps e made none

pub keeps_the_test : (r : Rules) (t : Test) → (outcome_of_test r t).refusal ≡ None → KeepsTheTest r t (outcome_of_test r t).new
keeps_the_test r t none p old new counts back keeps made = rewriting_keeps_tests r p old new counts back keeps t made none

-- the same of an equal tree
pub equal_keeps : (r : Rules) (e made : Expr) → made ≡ (outcome_of r e).new → (outcome_of r e).refusal ≡ None → KeepsTheValue r e made
equal_keeps r e made is none = subst (λ (x : Expr). KeepsTheValue r e x) (sym is) (keeps_the_value r e none)

pub equal_test_keeps : (r : Rules) (t made : Test) → made ≡ (outcome_of_test r t).new → (outcome_of_test r t).refusal ≡ None → KeepsTheTest r t made
equal_test_keeps r t made is none = subst (λ (x : Test). KeepsTheTest r t x) (sym is) (keeps_the_test r t none)
