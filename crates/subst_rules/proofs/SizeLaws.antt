-- The sizes of expanded trees.
use Rattle.std.specs.Prelude.{◌≡◌, ℕ, zero, suc, ◌+◌, ◌-◌, ◌<◌, min, max, List, [], ◌∷◌, map, length, slice_get, Option, Some, None, unwrap_or}
use Rattle.std.proofs.Common.{refl, sym, ap, ap₂, ◌∙◌, subst, arith}
use Rattle.affine_rows.specs.declared.quasi.Quasi.{Quasi}
use Rattle.expr_tree.specs.declared.tree.Node.{Node, out-Node, map-Node}
use Rattle.expr_tree.specs.declared.tree.Node.TheOpen.{Node-F, Test-F}
use Rattle.expr_tree.specs.declared.tree.Node.TheVariants as node
use Rattle.expr_tree.specs.declared.tree.Test.{Test, map-Test, fold-Test}
use Rattle.expr_tree.specs.declared.tree.Expr.{Expr}
use Rattle.expr_tree.specs.Depth.{node_step, test_step, depth_of, depth_of_test}
use Rattle.expr_tree.specs.Rewritten.{Outcome, tree_of, answered, node_outcome, test_outcome, rewritten, rewritten_test}
use Rattle.quasi_forms.specs.Collected.{put_form}
use Rattle.kernel_ir.specs.declared.kernel.Kernel.{Kernel}
use Rattle.kernel_ir.specs.declared.kernel.SubstRule.{SubstRule}
use Rattle.kernel_ir.specs.Limits.{count_node, count_test, count_expr, nodes_of}
use Rattle.kernel_ir.specs.Expanded.{put_in_layer, putting, used_in_layer, expanding, body_at, expanding_to}
use Rattle.subst_rules.specs.declared.sizes.Size.{Size}
use Rattle.subst_rules.specs.Sizes.{capped, leaf_size, over_one, over_two, joined, node_size, test_size, size_in, size_with, test_size_with, sizes_to, sizes_of, size_of, size_of_test}
use Rattle.subst_rules.proofs.Fusion.{fused, fused_test}
use Rattle.expr_tree.proofs.Made.{made-Literal, made-Leaf, made-Read, made-Call, made-Neg, made-Inv, made-Shl, made-Shr, made-Bin, made-Pick, made-Cast, made-Fold, made-Words, made-Index, made-All, made-Any, made-Not}

-- ---- the rounds

module _ (rules : List SubstRule) where
  abbrev next : List Size → List Size
  next sizes = map (λ r. size_with (size_in sizes) r.body) rules

  stays : (d k n : ℕ) (sizes : List Size) → sizes ≡ next sizes → sizes ≡ sizes_to rules k → n ≡ d + k → sizes ≡ sizes_to rules n
  stays zero k n sizes same at is = let e : k ≡ n = omega (arith, is) in subst (λ (m : ℕ). sizes ≡ sizes_to rules m) e at
  stays (suc d) k n sizes same at is = stays d (suc k) n sizes same (same ∙ ap next at) (omega (arith, is))

  pub settled : (k : ℕ) (sizes : List Size) → sizes ≡ sizes_to rules k → sizes ≡ next sizes → k < length rules → sizes ≡ sizes_of rules
  settled k sizes at same more = stays (length rules - k) k (length rules) sizes same at (omega arith)

-- ---- putting forms in keeps the size

module _ (call : ℕ → Size) (vs : List ℕ) (fs : List Quasi) where
  abbrev put_size : Outcome Expr → Size
  put_size o = size_with call o.new

  abbrev put_test_size : Outcome Test → Size
  put_test_size o = test_size_with call o.new

  put_new : (n : Node) (y : Node-F Node Test Expr) → out-Node n ≡ y → put_size (answered ((putting vs fs).leaf n) (tree_of n)) ≡ size_with call (unwrap_or (put_in_layer (put_form vs fs) y) (tree_of n))
  put_new n y is = ap (λ (z : Node-F Node Test Expr). size_with call (unwrap_or (put_in_layer (put_form vs fs) z) (tree_of n))) is

  put_node : (y : Node-F (Outcome Expr) (Outcome Test) (Outcome Expr)) → put_size (node_outcome (putting vs fs) y) ≡ node_size call (map-Node _ _ _ _ _ _ put_size put_test_size put_size y)
  put_node (Node-F.Literal n) = put_new (node.Literal n) (Node-F.Literal n) (node.outs-Literal n) ∙ made-Literal Size Size (node_size call) test_size n
  put_node (Node-F.Leaf q) = put_new (node.Leaf q) (Node-F.Leaf q) (node.outs-Leaf q) ∙ made-Leaf Size Size (node_size call) test_size (put_form vs fs q)
  put_node (Node-F.Read cell place) = put_new (node.Read cell place) (Node-F.Read cell place) (node.outs-Read cell place) ∙ made-Read Size Size (node_size call) test_size cell (map (put_form vs fs) place)
  put_node (Node-F.Call rule arguments) = put_new (node.Call rule arguments) (Node-F.Call rule arguments) (node.outs-Call rule arguments) ∙ made-Call Size Size (node_size call) test_size rule (map (put_form vs fs) arguments)
  put_node (Node-F.Neg a) = made-Neg Size Size (node_size call) test_size a.new
  put_node (Node-F.Inv a) = made-Inv Size Size (node_size call) test_size a.new
  put_node (Node-F.Shl a by) = made-Shl Size Size (node_size call) test_size a.new by
  put_node (Node-F.Shr a by) = made-Shr Size Size (node_size call) test_size a.new by
  put_node (Node-F.Bin op a b) = made-Bin Size Size (node_size call) test_size op a.new b.new
  put_node (Node-F.Pick t a b) = made-Pick Size Size (node_size call) test_size t.new a.new b.new
  put_node (Node-F.Cast kind a) = made-Cast Size Size (node_size call) test_size kind a.new
  put_node (Node-F.Fold op inames a) = made-Fold Size Size (node_size call) test_size op inames a.new

  put_test : (y : Test-F (Outcome Expr) (Outcome Test) (Outcome Expr)) → put_test_size (test_outcome (putting vs fs) y) ≡ test_size (map-Test _ _ _ _ _ _ put_size put_test_size put_size y)
  put_test (Test-F.Words rel a b) = made-Words Size Size (node_size call) test_size rel a.new b.new
  put_test (Test-F.Index rel a b) = made-Index Size Size (node_size call) test_size rel (put_form vs fs a) (put_form vs fs b)
  put_test (Test-F.All p q) = made-All Size Size (node_size call) test_size p.new q.new
  put_test (Test-F.Any p q) = made-Any Size Size (node_size call) test_size p.new q.new
  put_test (Test-F.Not p) = made-Not Size Size (node_size call) test_size p.new

  pub size_put : (e : Expr) → size_with call (rewritten (putting vs fs) e) ≡ size_with call e
  size_put = fused (Outcome Expr) (Outcome Test) Size Size (node_outcome (putting vs fs)) (test_outcome (putting vs fs)) (node_size call) test_size put_size put_test_size put_node put_test

-- ---- the size of a tree in which uses are replaced

abbrev nodes_of_tests : Test → ℕ
nodes_of_tests = fold-Test ℕ ℕ ℕ count_node count_test count_expr

abbrev pair : ℕ → ℕ → Size
pair d n = record { depth = d; nodes = n }

deeper : (d : ℕ) → min (d + 1) 65 ≡ min (min d 65 + 1) 65
deeper d = omega arith

deeper_two : (d e : ℕ) → min (max d e + 1) 65 ≡ min (max (min d 65) (min e 65) + 1) 65
deeper_two d e = omega arith

deeper_three : (c d e : ℕ) → min (max c (max d e) + 1) 65 ≡ min (max (min c 65) (max (min d 65) (min e 65)) + 1) 65
deeper_three c d e = omega arith

more : (n : ℕ) → min (n + 1) 4097 ≡ min (min n 4097 + 1) 4097
more n = omega arith

more_two : (n m : ℕ) → min (n + m + 1) 4097 ≡ min (min n 4097 + min m 4097 + 1) 4097
more_two n m = omega arith

more_three : (k n m : ℕ) → min (k + (n + m) + 1) 4097 ≡ min (min k 4097 + (min n 4097 + min m 4097) + 1) 4097
more_three k n m = omega arith

sum_two : (n m : ℕ) → min (n + m) 4097 ≡ min (min n 4097 + min m 4097) 4097
sum_two n m = omega arith

as_it_is : (n : ℕ) → min n 4097 ≡ min (min n 4097) 4097
as_it_is n = omega arith

cap_one : (d n : ℕ) → capped (d + 1) (n + 1) ≡ over_one (capped d n)
cap_one d n = ap₂ pair (deeper d) (more n)

cap_two : (d e n m : ℕ) → capped (max d e + 1) (n + m + 1) ≡ over_two (capped d n) (capped e m)
cap_two d e n m = ap₂ pair (deeper_two d e) (more_two n m)

cap_joined : (d e n m : ℕ) → capped (max d e + 1) (n + m) ≡ joined (capped d n) (capped e m)
cap_joined d e n m = ap₂ pair (deeper_two d e) (sum_two n m)

cap_three : (c d e k n m : ℕ) → capped (max c (max d e) + 1) (k + (n + m) + 1) ≡ capped (max (min c 65) (max (min d 65) (min e 65)) + 1) (min k 4097 + (min n 4097 + min m 4097) + 1)
cap_three c d e k n m = ap₂ pair (deeper_three c d e) (more_three k n m)

cap_not : (d n : ℕ) → capped (d + 1) n ≡ capped (min d 65 + 1) (min n 4097)
cap_not d n = ap₂ pair (deeper d) (as_it_is n)

module _ (tree_at : ℕ → List Quasi → Option Expr) (call : ℕ → Size) (call_is : (rule : ℕ) (arguments : List Quasi) → size_of (unwrap_or (tree_at rule arguments) (tree_of (node.Call rule arguments))) ≡ call rule) where
  abbrev new_size : Outcome Expr → Size
  new_size o = size_of o.new

  abbrev new_test_size : Outcome Test → Size
  new_test_size o = size_of_test o.new

  used_new : (n : Node) (y : Node-F Node Test Expr) → out-Node n ≡ y → new_size (answered ((expanding tree_at).leaf n) (tree_of n)) ≡ size_of (unwrap_or (used_in_layer tree_at y) (tree_of n))
  used_new n y is = ap (λ (z : Node-F Node Test Expr). size_of (unwrap_or (used_in_layer tree_at z) (tree_of n))) is

  used_node : (y : Node-F (Outcome Expr) (Outcome Test) (Outcome Expr)) → new_size (node_outcome (expanding tree_at) y) ≡ node_size call (map-Node _ _ _ _ _ _ new_size new_test_size new_size y)
  used_node (Node-F.Literal n) = used_new (node.Literal n) (Node-F.Literal n) (node.outs-Literal n) ∙ ap₂ capped (made-Literal ℕ ℕ node_step test_step n) (made-Literal ℕ ℕ count_node count_test n)
  used_node (Node-F.Leaf q) = used_new (node.Leaf q) (Node-F.Leaf q) (node.outs-Leaf q) ∙ ap₂ capped (made-Leaf ℕ ℕ node_step test_step q) (made-Leaf ℕ ℕ count_node count_test q)
  used_node (Node-F.Read cell place) = used_new (node.Read cell place) (Node-F.Read cell place) (node.outs-Read cell place) ∙ ap₂ capped (made-Read ℕ ℕ node_step test_step cell place) (made-Read ℕ ℕ count_node count_test cell place)
  used_node (Node-F.Call rule arguments) = used_new (node.Call rule arguments) (Node-F.Call rule arguments) (node.outs-Call rule arguments) ∙ call_is rule arguments
  used_node (Node-F.Neg a) = ap₂ capped (made-Neg ℕ ℕ node_step test_step a.new) (made-Neg ℕ ℕ count_node count_test a.new) ∙ cap_one (depth_of a.new) (nodes_of a.new)
  used_node (Node-F.Inv a) = ap₂ capped (made-Inv ℕ ℕ node_step test_step a.new) (made-Inv ℕ ℕ count_node count_test a.new) ∙ cap_one (depth_of a.new) (nodes_of a.new)
  used_node (Node-F.Shl a by) = ap₂ capped (made-Shl ℕ ℕ node_step test_step a.new by) (made-Shl ℕ ℕ count_node count_test a.new by) ∙ cap_one (depth_of a.new) (nodes_of a.new)
  used_node (Node-F.Shr a by) = ap₂ capped (made-Shr ℕ ℕ node_step test_step a.new by) (made-Shr ℕ ℕ count_node count_test a.new by) ∙ cap_one (depth_of a.new) (nodes_of a.new)
  used_node (Node-F.Bin op a b) = ap₂ capped (made-Bin ℕ ℕ node_step test_step op a.new b.new) (made-Bin ℕ ℕ count_node count_test op a.new b.new) ∙ cap_two (depth_of a.new) (depth_of b.new) (nodes_of a.new) (nodes_of b.new)
  used_node (Node-F.Pick t a b) = ap₂ capped (made-Pick ℕ ℕ node_step test_step t.new a.new b.new) (made-Pick ℕ ℕ count_node count_test t.new a.new b.new) ∙ cap_three (depth_of_test t.new) (depth_of a.new) (depth_of b.new) (nodes_of_tests t.new) (nodes_of a.new) (nodes_of b.new)
  used_node (Node-F.Cast kind a) = ap₂ capped (made-Cast ℕ ℕ node_step test_step kind a.new) (made-Cast ℕ ℕ count_node count_test kind a.new) ∙ cap_one (depth_of a.new) (nodes_of a.new)
  used_node (Node-F.Fold op inames a) = ap₂ capped (made-Fold ℕ ℕ node_step test_step op inames a.new) (made-Fold ℕ ℕ count_node count_test op inames a.new) ∙ cap_one (depth_of a.new) (nodes_of a.new)

  used_test : (y : Test-F (Outcome Expr) (Outcome Test) (Outcome Expr)) → new_test_size (test_outcome (expanding tree_at) y) ≡ test_size (map-Test _ _ _ _ _ _ new_size new_test_size new_size y)
  used_test (Test-F.Words rel a b) = ap₂ capped (made-Words ℕ ℕ node_step test_step rel a.new b.new) (made-Words ℕ ℕ count_node count_test rel a.new b.new) ∙ cap_joined (depth_of a.new) (depth_of b.new) (nodes_of a.new) (nodes_of b.new)
  used_test (Test-F.Index rel a b) = ap₂ capped (made-Index ℕ ℕ node_step test_step rel a b) (made-Index ℕ ℕ count_node count_test rel a b)
  used_test (Test-F.All p q) = ap₂ capped (made-All ℕ ℕ node_step test_step p.new q.new) (made-All ℕ ℕ count_node count_test p.new q.new) ∙ cap_joined (depth_of_test p.new) (depth_of_test q.new) (nodes_of_tests p.new) (nodes_of_tests q.new)
  used_test (Test-F.Any p q) = ap₂ capped (made-Any ℕ ℕ node_step test_step p.new q.new) (made-Any ℕ ℕ count_node count_test p.new q.new) ∙ cap_joined (depth_of_test p.new) (depth_of_test q.new) (nodes_of_tests p.new) (nodes_of_tests q.new)
  used_test (Test-F.Not p) = ap₂ capped (made-Not ℕ ℕ node_step test_step p.new) (made-Not ℕ ℕ count_node count_test p.new) ∙ cap_not (depth_of_test p.new) (nodes_of_tests p.new)

  size_used : (e : Expr) → size_of (rewritten (expanding tree_at) e) ≡ size_with call e
  size_used = fused (Outcome Expr) (Outcome Test) Size Size (node_outcome (expanding tree_at)) (test_outcome (expanding tree_at)) (node_size call) test_size new_size new_test_size used_node used_test

  size_used_test : (t : Test) → size_of_test (rewritten_test (expanding tree_at) t) ≡ test_size_with call t
  size_used_test = fused_test (Outcome Expr) (Outcome Test) Size Size (node_outcome (expanding tree_at)) (test_outcome (expanding tree_at)) (node_size call) test_size new_size new_test_size used_node used_test

-- ---- by the table

abbrev sized : (SubstRule → Size) → Option SubstRule → Size
sized f None = leaf_size
sized f (Some r) = f r

size_at : (f : SubstRule → Size) (rules : List SubstRule) (rule : ℕ) → size_in (map f rules) rule ≡ sized f (slice_get rules rule)
size_at f [] rule = refl
size_at f (r ∷ rs) zero = refl
size_at f (r ∷ rs) (suc n) = size_at f rs n

module _ (K : Kernel) where
  use_size : (rule : ℕ) (arguments : List Quasi) → size_of (tree_of (node.Call rule arguments)) ≡ leaf_size
  use_size rule arguments = ap₂ capped (made-Call ℕ ℕ node_step test_step rule arguments) (made-Call ℕ ℕ count_node count_test rule arguments)

  none_sized : (o : Option SubstRule) → leaf_size ≡ sized (λ r. leaf_size) o
  none_sized None = refl
  none_sized (Some r) = refl

  no_depth : (rule : ℕ) (arguments : List Quasi) → size_of (tree_of (node.Call rule arguments)) ≡ size_in (sizes_to K.rules zero) rule
  no_depth rule arguments = use_size rule arguments ∙ (none_sized (slice_get K.rules rule) ∙ sym (size_at (λ r. leaf_size) K.rules rule))

  -- the size of what is put for a use
  body_size : (n : ℕ) (o : Option SubstRule) (rule : ℕ) (arguments : List Quasi) → ((e : Expr) → size_of (rewritten (expanding_to K n) e) ≡ size_with (size_in (sizes_to K.rules n)) e)
      → size_of (unwrap_or (body_at (expanding_to K n) o arguments) (tree_of (node.Call rule arguments))) ≡ sized (λ r. size_with (size_in (sizes_to K.rules n)) r.body) o
  body_size n None rule arguments below = use_size rule arguments
  body_size n (Some r) rule arguments below = below (rewritten (putting r.params arguments) r.body) ∙ size_put (size_in (sizes_to K.rules n)) r.params arguments r.body

  calls_sized : (n : ℕ) → ((e : Expr) → size_of (rewritten (expanding_to K n) e) ≡ size_with (size_in (sizes_to K.rules n)) e) → (rule : ℕ) (arguments : List Quasi)
      → size_of (unwrap_or (body_at (expanding_to K n) (slice_get K.rules rule) arguments) (tree_of (node.Call rule arguments))) ≡ size_in (sizes_to K.rules (suc n)) rule
  calls_sized n below rule arguments = body_size n (slice_get K.rules rule) rule arguments below ∙ sym (size_at (λ r. size_with (size_in (sizes_to K.rules n)) r.body) K.rules rule)

  pub size_to : (n : ℕ) (e : Expr) → size_of (rewritten (expanding_to K n) e) ≡ size_with (size_in (sizes_to K.rules n)) e
  size_to zero = size_used (λ rule arguments. None) (size_in (sizes_to K.rules zero)) no_depth
  size_to (suc n) = size_used (λ rule arguments. body_at (expanding_to K n) (slice_get K.rules rule) arguments) (size_in (sizes_to K.rules (suc n))) (calls_sized n (size_to n))

  pub test_size_to : (n : ℕ) (t : Test) → size_of_test (rewritten_test (expanding_to K n) t) ≡ test_size_with (size_in (sizes_to K.rules n)) t
  test_size_to zero = size_used_test (λ rule arguments. None) (size_in (sizes_to K.rules zero)) no_depth
  test_size_to (suc n) = size_used_test (λ rule arguments. body_at (expanding_to K n) (slice_get K.rules rule) arguments) (size_in (sizes_to K.rules (suc n))) (calls_sized n (size_to n))
