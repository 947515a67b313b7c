-- Trees whose uses of rules all pass a test.
use Rattle.std.specs.Prelude.{◌≡◌, ℕ, nat_eq, Bool, true, false, ◌&&◌, List, ◌++◌, length}
use Rattle.std.specs.List.{list_all}
use Rattle.std.proofs.Common.{refl, sym, ap, ◌∙◌, arith}
use Rattle.std.proofs.lemmas.List.Folds.{list_all-append}
use Rattle.expr_tree.specs.declared.tree.Node.{Node, out-Node, map-Node}
use Rattle.expr_tree.specs.declared.tree.Node.TheOpen.{Node-F, Test-F}
use Rattle.expr_tree.specs.declared.tree.Node.TheVariants as node
use Rattle.expr_tree.specs.declared.tree.Test.{Test, map-Test}
use Rattle.expr_tree.specs.declared.tree.Expr.{Expr}
use Rattle.expr_tree.specs.Keeping.{Parts, parts_of_node, parts_of_test, is_made_of, test_is_made_of}
use Rattle.kernel_ir.specs.Mentions.{node_listed, test_listed, listed, listed_in_test, calls}
use Rattle.subst_rules.proofs.Fusion.{fused, fused_test}

abbrev pub passes_use : (ℕ × ℕ → Bool) → Node-F Node Test Expr → Bool
passes_use q (Node-F.Call rule arguments) = q (rule, length arguments)
passes_use q _ = true

abbrev pub passing : (ℕ × ℕ → Bool) → Parts
passing q = record { leaf = λ n. passes_use q (out-Node n); form = λ q. true; over = λ inames. true }

pub equal_numbers : (a b : ℕ) → nat_eq a b ≡ true → a ≡ b
equal_numbers a b h = search (arith, h)

and_end : (b : Bool) → (b && true) ≡ b
and_end true = refl
and_end false = refl

module _ (q : ℕ × ℕ → Bool) where
  abbrev All : List (ℕ × ℕ) → Bool
  All cs = list_all q cs

  node_layer : (y : Node-F (List (ℕ × ℕ)) (List (ℕ × ℕ)) (List (ℕ × ℕ))) → list_all q (node_listed calls y) ≡ parts_of_node (passing q) (map-Node _ _ _ _ _ _ All All All y)
  node_layer (Node-F.Literal n) = sym (ap (passes_use q) (node.outs-Literal n))
  node_layer (Node-F.Leaf form) = sym (ap (passes_use q) (node.outs-Leaf form))
  node_layer (Node-F.Read cell place) = sym (ap (passes_use q) (node.outs-Read cell place))
  node_layer (Node-F.Call rule arguments) = and_end (q (rule, length arguments)) ∙ sym (ap (passes_use q) (node.outs-Call rule arguments))
  node_layer (Node-F.Neg a) = refl
  node_layer (Node-F.Inv a) = refl
  node_layer (Node-F.Shl a by) = refl
  node_layer (Node-F.Shr a by) = refl
  node_layer (Node-F.Bin op a b) = list_all-append q a b
  node_layer (Node-F.Pick t a b) = list_all-append q t (a ++ b) ∙ ap (λ (x : Bool). list_all q t && x) (list_all-append q a b)
  node_layer (Node-F.Cast kind a) = refl
  node_layer (Node-F.Fold op inames a) = refl

  test_layer : (y : Test-F (List (ℕ × ℕ)) (List (ℕ × ℕ)) (List (ℕ × ℕ))) → list_all q (test_listed calls y) ≡ parts_of_test (passing q) (map-Test _ _ _ _ _ _ All All All y)
  test_layer (Test-F.Words rel a b) = list_all-append q a b
  test_layer (Test-F.Index rel a b) = refl
  test_layer (Test-F.All t u) = list_all-append q t u
  test_layer (Test-F.Any t u) = list_all-append q t u
  test_layer (Test-F.Not t) = refl

  pub passes : (e : Expr) → list_all q (listed calls e) ≡ is_made_of (passing q) e
  passes = fused (List (ℕ × ℕ)) (List (ℕ × ℕ)) Bool Bool (node_listed calls) (test_listed calls) (parts_of_node (passing q)) (parts_of_test (passing q)) All All node_layer test_layer

  pub passes_test : (t : Test) → list_all q (listed_in_test calls t) ≡ test_is_made_of (passing q) t
  passes_test = fused_test (List (ℕ × ℕ)) (List (ℕ × ℕ)) Bool Bool (node_listed calls) (test_listed calls) (parts_of_node (passing q)) (parts_of_test (passing q)) All All node_layer test_layer
