-- Trees without rule uses and reductions mean in any world what they mean at the numbers and cells alone.
use Rattle.std.specs.Prelude.{◌≡◌, Bool, true, ◌&&◌}
use Rattle.std.proofs.Common.{refl, sym, ap, ap₂, ◌∙◌, subst, true≢false}
use Rattle.expr_tree.specs.declared.tree.Node.{Node, roll-Node, map-Node, fold-roll-Node}
use Rattle.expr_tree.specs.declared.tree.Node.TheOpen.{Node-F, Test-F, Expr-F}
use Rattle.expr_tree.specs.declared.tree.Test.{Test, roll-Test, map-Test, ind-Test, fold-roll-Test}
use Rattle.expr_tree.specs.declared.tree.Expr.{Expr, roll-Expr, map-Expr, ind-Expr, fold-roll-Expr}
use Rattle.expr_tree.specs.Value.{Sense, TestSense, node_sense, test_sense, expr_sense, sense_of, sense_of_node, sense_of_test}
use Rattle.expr_tree.specs.Scenes.{Scene}
use Rattle.expr_tree.specs.Meaning.{World, node_meaning, test_meaning, meaning_of, meaning_of_node, meaning_of_test, plain_node, plain_test, plain_expr, is_plain, is_plain_node, is_plain_test}
use Rattle.expr_tree.proofs.Layers.{meaning_node, meaning_test, meaning_expr, left, right}

module _ (w : World) (at : Scene) where
  abbrev PlainNode : Node → Type 0
  PlainNode n = is_plain_node n ≡ true → meaning_of_node w n at ≡ sense_of_node at.env w.store n

  abbrev PlainTest : Test → Type 0
  PlainTest t = is_plain_test t ≡ true → meaning_of_test w t at ≡ sense_of_test at.env w.store t

  abbrev PlainExpr : Expr → Type 0
  PlainExpr e = is_plain e ≡ true → meaning_of w e at ≡ sense_of at.env w.store e

  sense_node : (n : Node-F Node Test Expr) → sense_of_node at.env w.store (roll-Node n) ≡ node_sense at.env w.store (map-Node _ _ _ _ _ _ (sense_of_node at.env w.store) (sense_of_test at.env w.store) (sense_of at.env w.store) n)
  sense_node n = fold-roll-Node Sense TestSense Sense (node_sense at.env w.store) (test_sense at.env w.store) expr_sense n

  sense_test : (t : Test-F Node Test Expr) → sense_of_test at.env w.store (roll-Test t) ≡ test_sense at.env w.store (map-Test _ _ _ _ _ _ (sense_of_node at.env w.store) (sense_of_test at.env w.store) (sense_of at.env w.store) t)
  sense_test t = fold-roll-Test Sense TestSense Sense (node_sense at.env w.store) (test_sense at.env w.store) expr_sense t

  node_at : (n : Node-F Node Test Expr)
      → (plain_node (map-Node _ _ _ _ _ _ is_plain_node is_plain_test is_plain n) ≡ true
      → node_meaning w (map-Node _ _ _ _ _ _ (meaning_of_node w) (meaning_of_test w) (meaning_of w) n) at ≡ node_sense at.env w.store (map-Node _ _ _ _ _ _ (sense_of_node at.env w.store) (sense_of_test at.env w.store) (sense_of at.env w.store) n))
      → PlainNode (roll-Node n)
  node_at n h is = ap (λ (f : Scene → Sense). f at) (meaning_node w n) ∙ (h (sym (fold-roll-Node Bool Bool Bool plain_node plain_test plain_expr n) ∙ is) ∙ sym (sense_node n))

  test_at : (t : Test-F Node Test Expr)
      → (plain_test (map-Test _ _ _ _ _ _ is_plain_node is_plain_test is_plain t) ≡ true
      → test_meaning w (map-Test _ _ _ _ _ _ (meaning_of_node w) (meaning_of_test w) (meaning_of w) t) at ≡ test_sense at.env w.store (map-Test _ _ _ _ _ _ (sense_of_node at.env w.store) (sense_of_test at.env w.store) (sense_of at.env w.store) t))
      → PlainTest (roll-Test t)
  test_at t h is = ap (λ (f : Scene → TestSense). f at) (meaning_test w t) ∙ (h (sym (fold-roll-Test Bool Bool Bool plain_node plain_test plain_expr t) ∙ is) ∙ sym (sense_test t))

  node_case : (y : Node-F ((n : Node) × PlainNode n) ((t : Test) × PlainTest t) ((e : Expr) × PlainExpr e)) → PlainNode (roll-Node (map-Node _ _ _ _ _ _ (λ e. e.0) (λ e. e.0) (λ e. e.0) y))
  node_case (Node-F.Literal n) = node_at (Node-F.Literal n) (λ is. refl)
  node_case (Node-F.Leaf form) = node_at (Node-F.Leaf form) (λ is. refl)
  node_case (Node-F.Read cell place) = node_at (Node-F.Read cell place) (λ is. refl)
  node_case (Node-F.Call rule arguments) = node_at (Node-F.Call rule arguments) (λ is. absurd (true≢false (sym is)))
  node_case (Node-F.Neg a) = node_at (Node-F.Neg a.0) (λ is. ap (λ (s : Sense). node_sense at.env w.store (Node-F.Neg s)) (a.1 is))
  node_case (Node-F.Inv a) = node_at (Node-F.Inv a.0) (λ is. ap (λ (s : Sense). node_sense at.env w.store (Node-F.Inv s)) (a.1 is))
  node_case (Node-F.Shl a by) = node_at (Node-F.Shl a.0 by) (λ is. ap (λ (s : Sense). node_sense at.env w.store (Node-F.Shl s by)) (a.1 is))
  node_case (Node-F.Shr a by) = node_at (Node-F.Shr a.0 by) (λ is. ap (λ (s : Sense). node_sense at.env w.store (Node-F.Shr s by)) (a.1 is))
  node_case (Node-F.Bin op a b) = node_at (Node-F.Bin op a.0 b.0) (λ is. ap₂ (λ (x y : Sense). node_sense at.env w.store (Node-F.Bin op x y)) (a.1 (left (is_plain a.0) (is_plain b.0) is)) (b.1 (right (is_plain a.0) (is_plain b.0) is)))
  node_case (Node-F.Pick t a b) = node_at (Node-F.Pick t.0 a.0 b.0) (λ is.
      let later = right (is_plain_test t.0) (is_plain a.0 && is_plain b.0) is in
      ap (λ (z : TestSense). node_sense at.env w.store (Node-F.Pick z (meaning_of w a.0 at) (meaning_of w b.0 at))) (t.1 (left (is_plain_test t.0) (is_plain a.0 && is_plain b.0) is))
      ∙ ap₂ (λ (x y : Sense). node_sense at.env w.store (Node-F.Pick (sense_of_test at.env w.store t.0) x y)) (a.1 (left (is_plain a.0) (is_plain b.0) later)) (b.1 (right (is_plain a.0) (is_plain b.0) later)))
  node_case (Node-F.Cast kind a) = node_at (Node-F.Cast kind a.0) (λ is. ap (λ (s : Sense). node_sense at.env w.store (Node-F.Cast kind s)) (a.1 is))
  node_case (Node-F.Fold op inames a) = node_at (Node-F.Fold op inames a.0) (λ is. absurd (true≢false (sym is)))

  test_case : (y : Test-F ((n : Node) × PlainNode n) ((t : Test) × PlainTest t) ((e : Expr) × PlainExpr e)) → PlainTest (roll-Test (map-Test _ _ _ _ _ _ (λ e. e.0) (λ e. e.0) (λ e. e.0) y))
  test_case (Test-F.Words rel a b) = test_at (Test-F.Words rel a.0 b.0) (λ is. ap₂ (λ (x y : Sense). test_sense at.env w.store (Test-F.Words rel x y)) (a.1 (left (is_plain a.0) (is_plain b.0) is)) (b.1 (right (is_plain a.0) (is_plain b.0) is)))
  test_case (Test-F.Index rel a b) = test_at (Test-F.Index rel a b) (λ is. refl)
  test_case (Test-F.All p q) = test_at (Test-F.All p.0 q.0) (λ is. ap₂ (λ (x y : TestSense). test_sense at.env w.store (Test-F.All x y)) (p.1 (left (is_plain_test p.0) (is_plain_test q.0) is)) (q.1 (right (is_plain_test p.0) (is_plain_test q.0) is)))
  test_case (Test-F.Any p q) = test_at (Test-F.Any p.0 q.0) (λ is. ap₂ (λ (x y : TestSense). test_sense at.env w.store (Test-F.Any x y)) (p.1 (left (is_plain_test p.0) (is_plain_test q.0) is)) (q.1 (right (is_plain_test p.0) (is_plain_test q.0) is)))
  test_case (Test-F.Not p) = test_at (Test-F.Not p.0) (λ is. ap (λ (x : TestSense). test_sense at.env w.store (Test-F.Not x)) (p.1 is))

  expr_at : (e : Expr-F Node Test Expr) → PlainNode e.node → PlainExpr (roll-Expr e)
  expr_at e h is = ap (λ (f : Scene → Sense). f at) (meaning_expr w e)
      ∙ (h (sym (fold-roll-Expr Bool Bool Bool plain_node plain_test plain_expr e) ∙ is) ∙ sym (fold-roll-Expr Sense TestSense Sense (node_sense at.env w.store) (test_sense at.env w.store) expr_sense e))

  -- a tree without rule uses and reductions
  pub plain_meaning : (e : Expr) → PlainExpr e
  plain_meaning = ind-Expr PlainNode PlainTest PlainExpr
      (λ x y is. subst (λ z. PlainNode (roll-Node z)) is (node_case y))
      (λ x y is. subst (λ z. PlainTest (roll-Test z)) is (test_case y))
      (λ x y is. subst (λ z. PlainExpr (roll-Expr z)) is (expr_at (map-Expr _ _ _ _ _ _ (λ e. e.0) (λ e. e.0) (λ e. e.0) y) y.node.1))

  pub plain_meaning_of_test : (t : Test) → PlainTest t
  plain_meaning_of_test = ind-Test PlainNode PlainTest PlainExpr
      (λ x y is. subst (λ z. PlainNode (roll-Node z)) is (node_case y))
      (λ x y is. subst (λ z. PlainTest (roll-Test z)) is (test_case y))
      (λ x y is. subst (λ z. PlainExpr (roll-Expr z)) is (expr_at (map-Expr _ _ _ _ _ _ (λ e. e.0) (λ e. e.0) (λ e. e.0) y) y.node.1))
