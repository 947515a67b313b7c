-- All trees are made of all parts.
use Rattle.std.specs.Prelude.{◌≡◌, Bool, true, false, ◌&&◌}
use Rattle.std.proofs.Common.{refl, ap, ◌∙◌, subst}
use Rattle.expr_tree.specs.declared.tree.Node.{Node, roll-Node, map-Node}
use Rattle.expr_tree.specs.declared.tree.Node.TheOpen.{Node-F, Test-F, Expr-F}
use Rattle.expr_tree.specs.declared.tree.Node.TheVariants as node
use Rattle.expr_tree.specs.declared.tree.Test.{Test, roll-Test, map-Test, ind-Test}
use Rattle.expr_tree.specs.declared.tree.Expr.{Expr, roll-Expr, map-Expr, ind-Expr}
use Rattle.expr_tree.specs.Keeping.{all_parts, is_leaf_layer, parts_of_node, parts_of_test, is_made_of, node_is_made_of, test_is_made_of}
use Rattle.expr_tree.proofs.Layers.{made_node, made_test, made_expr}

both : (p q : Bool) → p ≡ true → q ≡ true → (p && q) ≡ true
both true q h k = k
both false q h k = h

abbrev OfNode : Node → Type 0
OfNode n = node_is_made_of all_parts n ≡ true

abbrev OfTest : Test → Type 0
OfTest t = test_is_made_of all_parts t ≡ true

abbrev OfExpr : Expr → Type 0
OfExpr e = is_made_of all_parts e ≡ true

node_at : (n : Node-F Node Test Expr) → parts_of_node all_parts (map-Node _ _ _ _ _ _ (node_is_made_of all_parts) (test_is_made_of all_parts) (is_made_of all_parts) n) ≡ true → OfNode (roll-Node n)
node_at n h = made_node all_parts n ∙ h

test_at : (t : Test-F Node Test Expr) → parts_of_test all_parts (map-Test _ _ _ _ _ _ (node_is_made_of all_parts) (test_is_made_of all_parts) (is_made_of all_parts) t) ≡ true → OfTest (roll-Test t)
test_at t h = made_test all_parts t ∙ h

node_case : (y : Node-F ((n : Node) × OfNode n) ((t : Test) × OfTest t) ((e : Expr) × OfExpr e)) → OfNode (roll-Node (map-Node _ _ _ _ _ _ (λ e. e.0) (λ e. e.0) (λ e. e.0) y))
node_case (Node-F.Literal n) = node_at (Node-F.Literal n) (ap is_leaf_layer (node.outs-Literal n))
node_case (Node-F.Leaf form) = node_at (Node-F.Leaf form) (ap is_leaf_layer (node.outs-Leaf form))
node_case (Node-F.Read cell place) = node_at (Node-F.Read cell place) (ap is_leaf_layer (node.outs-Read cell place))
node_case (Node-F.Call rule arguments) = node_at (Node-F.Call rule arguments) (ap is_leaf_layer (node.outs-Call rule arguments))
node_case (Node-F.Neg a) = node_at (Node-F.Neg a.0) a.1
node_case (Node-F.Inv a) = node_at (Node-F.Inv a.0) a.1
node_case (Node-F.Shl a by) = node_at (Node-F.Shl a.0 by) a.1
node_case (Node-F.Shr a by) = node_at (Node-F.Shr a.0 by) a.1
node_case (Node-F.Bin op a b) = node_at (Node-F.Bin op a.0 b.0) (both (is_made_of all_parts a.0) (is_made_of all_parts b.0) a.1 b.1)
node_case (Node-F.Pick t a b) = node_at (Node-F.Pick t.0 a.0 b.0) (both (test_is_made_of all_parts t.0) (is_made_of all_parts a.0 && is_made_of all_parts b.0) t.1 (both (is_made_of all_parts a.0) (is_made_of all_parts b.0) a.1 b.1))
node_case (Node-F.Cast kind a) = node_at (Node-F.Cast kind a.0) a.1
node_case (Node-F.Fold op inames a) = node_at (Node-F.Fold op inames a.0) a.1

test_case : (y : Test-F ((n : Node) × OfNode n) ((t : Test) × OfTest t) ((e : Expr) × OfExpr e)) → OfTest (roll-Test (map-Test _ _ _ _ _ _ (λ e. e.0) (λ e. e.0) (λ e. e.0) y))
test_case (Test-F.Words rel a b) = test_at (Test-F.Words rel a.0 b.0) (both (is_made_of all_parts a.0) (is_made_of all_parts b.0) a.1 b.1)
test_case (Test-F.Index rel a b) = test_at (Test-F.Index rel a b) refl
test_case (Test-F.All p q) = test_at (Test-F.All p.0 q.0) (both (test_is_made_of all_parts p.0) (test_is_made_of all_parts q.0) p.1 q.1)
test_case (Test-F.Any p q) = test_at (Test-F.Any p.0 q.0) (both (test_is_made_of all_parts p.0) (test_is_made_of all_parts q.0) p.1 q.1)
test_case (Test-F.Not p) = test_at (Test-F.Not p.0) p.1

expr_case : (y : Expr-F ((n : Node) × OfNode n) ((t : Test) × OfTest t) ((e : Expr) × OfExpr e)) → OfExpr (roll-Expr (map-Expr _ _ _ _ _ _ (λ e. e.0) (λ e. e.0) (λ e. e.0) y))
expr_case y = made_expr all_parts (map-Expr _ _ _ _ _ _ (λ e. e.0) (λ e. e.0) (λ e. e.0) y) ∙ y.node.1

pub all_made : (e : Expr) → OfExpr e
all_made = ind-Expr OfNode OfTest OfExpr
    (λ x y is. subst (λ z. OfNode (roll-Node z)) is (node_case y))
    (λ x y is. subst (λ z. OfTest (roll-Test z)) is (test_case y))
    (λ x y is. subst (λ z. OfExpr (roll-Expr z)) is (expr_case y))

pub all_tests_made : (t : Test) → OfTest t
all_tests_made = ind-Test OfNode OfTest OfExpr
    (λ x y is. subst (λ z. OfNode (roll-Node z)) is (node_case y))
    (λ x y is. subst (λ z. OfTest (roll-Test z)) is (test_case y))
    (λ x y is. subst (λ z. OfExpr (roll-Expr z)) is (expr_case y))
