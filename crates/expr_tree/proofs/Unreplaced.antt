-- Where nothing is replaced the tree stays, and no node is made anew.
use Rattle.std.specs.Prelude.{◌≡◌, ℕ, ◌+◌, Bool, true, false, ◌||◌, if◌then◌else◌, List, Option, Some, None, Result, Ok, Err}
use Rattle.std.proofs.Common.{refl, sym, ap, ap₂, subst}
use Rattle.expr_tree.specs.declared.build.ExprFault.{ExprFault}
use Rattle.expr_tree.specs.declared.tree.Node.{Node, roll-Node, map-Node}
use Rattle.expr_tree.specs.declared.tree.Node.TheOpen.{Node-F, Test-F, Expr-F}
use Rattle.expr_tree.specs.declared.tree.Node.TheVariants as node
use Rattle.expr_tree.specs.declared.tree.Test.{Test, roll-Test, map-Test, ind-Test}
use Rattle.expr_tree.specs.declared.tree.Test.TheVariants as test
use Rattle.expr_tree.specs.declared.tree.Expr.{Expr, roll-Expr, map-Expr, ind-Expr}
use Rattle.expr_tree.specs.Rewritten.{Rules, Outcome, tree_of, answered, over_one, over_two, made_tree, made_test, node_outcome, test_outcome, outcome_of, outcome_of_node, outcome_of_test}
use Rattle.expr_tree.specs.Laws.{Stays}
use Rattle.expr_tree.proofs.Layers.{outcome_node, outcome_test, outcome_expr}

first_false : (p q : Bool) → (p || q) ≡ false → p ≡ false
first_false true q h = absurd (cc)
first_false false q h = refl

second_false : (p q : Bool) → (p || q) ≡ false → q ≡ false
second_false true q h = absurd (cc)
second_false false q h = h

-- a part of which the rewriting is asked
asked : {T : Type 0} (answer : Result (Option T) ExprFault) (old : T) → (answered answer old).changed ≡ false → Stays (answered answer old) old
asked (Ok None) old h = record { same = refl; no_nodes = refl }
asked (Ok (Some t)) old h = absurd (cc)
asked (Err f) old h = record { same = refl; no_nodes = refl }

-- something over one part, and over two
one : {A T : Type 0} (whole : A → T) (a : Outcome A) (old : A) → (a.changed ≡ false → Stays a old) → a.changed ≡ false → Stays (over_one whole a) (whole old)
one whole a old stays h = let s = stays h in record { same = ap whole s.same; no_nodes = s.no_nodes }

two : {A B T : Type 0} (whole : A → B → T) (a : Outcome A) (b : Outcome B) (old_a : A) (old_b : B) → (a.changed ≡ false → Stays a old_a) → (b.changed ≡ false → Stays b old_b)
    → (over_two whole a b).changed ≡ false → Stays (over_two whole a b) (whole old_a old_b)
two whole a b old_a old_b first second h =
    let s = first (first_false a.changed b.changed h) in
    let t = second (second_false a.changed b.changed h) in
    record { same = ap₂ whole s.same t.same; no_nodes = ap₂ (λ (n m : ℕ). n + m) s.no_nodes t.no_nodes }

unmade : (changed : Bool) (n : ℕ) → changed ≡ false → n ≡ 0 → (if changed then n + 1 else n) ≡ 0
unmade true n h e = absurd (cc)
unmade false n h e = e

tree : (o : Outcome Node) (old : Node) → (o.changed ≡ false → Stays o old) → o.changed ≡ false → Stays (made_tree o) (tree_of old)
tree o old stays h = let s = stays h in record { same = ap tree_of s.same; no_nodes = unmade o.changed o.nodes h s.no_nodes }

same_test : {o : Outcome Test} {old : Test} → (o.changed ≡ false → Stays o old) → (made_test o).changed ≡ false → Stays (made_test o) old
same_test stays h = let s = stays h in record { same = s.same; no_nodes = s.no_nodes }

module _ (r : Rules) where
  abbrev OfNode : Node → Type 0
  OfNode n = (outcome_of_node r n).changed ≡ false → Stays (outcome_of_node r n) (tree_of n)

  abbrev OfTest : Test → Type 0
  OfTest t = (outcome_of_test r t).changed ≡ false → Stays (outcome_of_test r t) t

  abbrev OfExpr : Expr → Type 0
  OfExpr e = (outcome_of r e).changed ≡ false → Stays (outcome_of r e) e

  node_at : (n : Node-F Node Test Expr) (m : Node) → roll-Node n ≡ m → ((node_outcome r (map-Node _ _ _ _ _ _ (outcome_of_node r) (outcome_of_test r) (outcome_of r) n)).changed ≡ false → Stays (node_outcome r (map-Node _ _ _ _ _ _ (outcome_of_node r) (outcome_of_test r) (outcome_of r) n)) (tree_of m)) → OfNode (roll-Node n)
  node_at n m rolls h = subst (λ (o : Outcome Expr). o.changed ≡ false → Stays o (tree_of (roll-Node n))) (sym (outcome_node r n))
      (subst (λ (x : Node). (node_outcome r (map-Node _ _ _ _ _ _ (outcome_of_node r) (outcome_of_test r) (outcome_of r) n)).changed ≡ false → Stays (node_outcome r (map-Node _ _ _ _ _ _ (outcome_of_node r) (outcome_of_test r) (outcome_of r) n)) (tree_of x)) (sym rolls) h)

  test_at : (t : Test-F Node Test Expr) (u : Test) → roll-Test t ≡ u → ((test_outcome r (map-Test _ _ _ _ _ _ (outcome_of_node r) (outcome_of_test r) (outcome_of r) t)).changed ≡ false → Stays (test_outcome r (map-Test _ _ _ _ _ _ (outcome_of_node r) (outcome_of_test r) (outcome_of r) t)) u) → OfTest (roll-Test t)
  test_at t u rolls h = subst (λ (o : Outcome Test). o.changed ≡ false → Stays o (roll-Test t)) (sym (outcome_test r t))
      (subst (λ (x : Test). (test_outcome r (map-Test _ _ _ _ _ _ (outcome_of_node r) (outcome_of_test r) (outcome_of r) t)).changed ≡ false → Stays (test_outcome r (map-Test _ _ _ _ _ _ (outcome_of_node r) (outcome_of_test r) (outcome_of r) t)) x) (sym rolls) h)

  node_case : (y : Node-F ((n : Node) × OfNode n) ((t : Test) × OfTest t) ((e : Expr) × OfExpr e)) → OfNode (roll-Node (map-Node _ _ _ _ _ _ (λ e. e.0) (λ e. e.0) (λ e. e.0) y))
  node_case (Node-F.Literal n) = node_at (Node-F.Literal n) (node.Literal n) (node.rolls-Literal n) (asked (r.leaf (node.Literal n)) (tree_of (node.Literal n)))
  node_case (Node-F.Leaf form) = node_at (Node-F.Leaf form) (node.Leaf form) (node.rolls-Leaf form) (asked (r.leaf (node.Leaf form)) (tree_of (node.Leaf form)))
  node_case (Node-F.Read cell place) = node_at (Node-F.Read cell place) (node.Read cell place) (node.rolls-Read cell place) (asked (r.leaf (node.Read cell place)) (tree_of (node.Read cell place)))
  node_case (Node-F.Call rule arguments) = node_at (Node-F.Call rule arguments) (node.Call rule arguments) (node.rolls-Call rule arguments) (asked (r.leaf (node.Call rule arguments)) (tree_of (node.Call rule arguments)))
  node_case (Node-F.Neg a) = node_at (Node-F.Neg a.0) (node.Neg a.0) (node.rolls-Neg a.0) (tree (over_one node.Neg (outcome_of r a.0)) (node.Neg a.0) (one node.Neg (outcome_of r a.0) a.0 a.1))
  node_case (Node-F.Inv a) = node_at (Node-F.Inv a.0) (node.Inv a.0) (node.rolls-Inv a.0) (tree (over_one node.Inv (outcome_of r a.0)) (node.Inv a.0) (one node.Inv (outcome_of r a.0) a.0 a.1))
  node_case (Node-F.Shl a by) = node_at (Node-F.Shl a.0 by) (node.Shl a.0 by) (node.rolls-Shl a.0 by) (tree (over_one (λ x. node.Shl x by) (outcome_of r a.0)) (node.Shl a.0 by) (one (λ x. node.Shl x by) (outcome_of r a.0) a.0 a.1))
  node_case (Node-F.Shr a by) = node_at (Node-F.Shr a.0 by) (node.Shr a.0 by) (node.rolls-Shr a.0 by) (tree (over_one (λ x. node.Shr x by) (outcome_of r a.0)) (node.Shr a.0 by) (one (λ x. node.Shr x by) (outcome_of r a.0) a.0 a.1))
  node_case (Node-F.Bin op a b) = node_at (Node-F.Bin op a.0 b.0) (node.Bin op a.0 b.0) (node.rolls-Bin op a.0 b.0) (tree (over_two (node.Bin op) (outcome_of r a.0) (outcome_of r b.0)) (node.Bin op a.0 b.0) (two (node.Bin op) (outcome_of r a.0) (outcome_of r b.0) a.0 b.0 a.1 b.1))
  node_case (Node-F.Pick t a b) =
      let pair = over_two (λ (x y : Expr). (x, y)) (outcome_of r a.0) (outcome_of r b.0) in
      let whole = λ (p : Test) (xy : Expr × Expr). node.Pick p xy.0 xy.1 in
      node_at (Node-F.Pick t.0 a.0 b.0) (node.Pick t.0 a.0 b.0) (node.rolls-Pick t.0 a.0 b.0) (tree (over_two whole (outcome_of_test r t.0) pair) (node.Pick t.0 a.0 b.0)
      (two whole (outcome_of_test r t.0) pair t.0 (a.0, b.0) t.1 (two (λ (x y : Expr). (x, y)) (outcome_of r a.0) (outcome_of r b.0) a.0 b.0 a.1 b.1)))
  node_case (Node-F.Cast kind a) = node_at (Node-F.Cast kind a.0) (node.Cast kind a.0) (node.rolls-Cast kind a.0) (tree (over_one (node.Cast kind) (outcome_of r a.0)) (node.Cast kind a.0) (one (node.Cast kind) (outcome_of r a.0) a.0 a.1))
  node_case (Node-F.Fold op inames a) =
      let whole = λ (x : Expr) (is : List ℕ). node.Fold op is x in
      node_at (Node-F.Fold op inames a.0) (node.Fold op inames a.0) (node.rolls-Fold op inames a.0) (tree (over_two whole (outcome_of r a.0) (answered (r.over inames) inames)) (node.Fold op inames a.0)
      (two whole (outcome_of r a.0) (answered (r.over inames) inames) a.0 inames a.1 (asked (r.over inames) inames)))

  test_case : (y : Test-F ((n : Node) × OfNode n) ((t : Test) × OfTest t) ((e : Expr) × OfExpr e)) → OfTest (roll-Test (map-Test _ _ _ _ _ _ (λ e. e.0) (λ e. e.0) (λ e. e.0) y))
  test_case (Test-F.Words rel a b) = test_at (Test-F.Words rel a.0 b.0) (test.Words rel a.0 b.0) (test.rolls-Words rel a.0 b.0) (same_test (two (test.Words rel) (outcome_of r a.0) (outcome_of r b.0) a.0 b.0 a.1 b.1))
  test_case (Test-F.Index rel a b) = test_at (Test-F.Index rel a b) (test.Index rel a b) (test.rolls-Index rel a b) (two (test.Index rel) (answered (r.form a) a) (answered (r.form b) b) a b (asked (r.form a) a) (asked (r.form b) b))
  test_case (Test-F.All p q) = test_at (Test-F.All p.0 q.0) (test.All p.0 q.0) (test.rolls-All p.0 q.0) (same_test (two test.All (outcome_of_test r p.0) (outcome_of_test r q.0) p.0 q.0 p.1 q.1))
  test_case (Test-F.Any p q) = test_at (Test-F.Any p.0 q.0) (test.Any p.0 q.0) (test.rolls-Any p.0 q.0) (same_test (two test.Any (outcome_of_test r p.0) (outcome_of_test r q.0) p.0 q.0 p.1 q.1))
  test_case (Test-F.Not p) = test_at (Test-F.Not p.0) (test.Not p.0) (test.rolls-Not p.0) (same_test (one test.Not (outcome_of_test r p.0) p.0 p.1))

  expr_case : (y : Expr-F ((n : Node) × OfNode n) ((t : Test) × OfTest t) ((e : Expr) × OfExpr e)) → OfExpr (roll-Expr (map-Expr _ _ _ _ _ _ (λ e. e.0) (λ e. e.0) (λ e. e.0) y))
  expr_case y = subst (λ (o : Outcome Expr). o.changed ≡ false → Stays o (tree_of y.node.0)) (sym (outcome_expr r (map-Expr _ _ _ _ _ _ (λ e. e.0) (λ e. e.0) (λ e. e.0) y))) y.node.1

  pub trees_stay : (e : Expr) → OfExpr e
  trees_stay = ind-Expr OfNode OfTest OfExpr
      (λ x y is. subst (λ z. OfNode (roll-Node z)) is (node_case y))
      (λ x y is. subst (λ z. OfTest (roll-Test z)) is (test_case y))
      (λ x y is. subst (λ z. OfExpr (roll-Expr z)) is (expr_case y))

  pub tests_stay : (t : Test) → OfTest t
  tests_stay = ind-Test OfNode OfTest OfExpr
      (λ x y is. subst (λ z. OfNode (roll-Node z)) is (node_case y))
      (λ x y is. subst (λ z. OfTest (roll-Test z)) is (test_case y))
      (λ x y is. subst (λ z. OfExpr (roll-Expr z)) is (expr_case y))
