-- How large expanded trees get, worked out without building them. Past what is allowed all numbers are one.
use Rattle.std.specs.Prelude.{ℕ, zero, suc, ◌+◌, min, max, List, map, length, slice_index_or}
use Rattle.expr_tree.specs.declared.tree.Node.TheOpen.{Node-F, Test-F, Expr-F}
use Rattle.expr_tree.specs.declared.tree.Test.{Test, fold-Test}
use Rattle.expr_tree.specs.declared.tree.Expr.{Expr, fold-Expr}
use Rattle.expr_tree.specs.Depth.{depth_of, depth_of_test}
use Rattle.kernel_ir.specs.declared.kernel.SubstRule.{SubstRule}
use Rattle.kernel_ir.specs.Limits.{nodes_of, count_node, count_test, count_expr}
use Rattle.subst_rules.specs.declared.sizes.Size.{Size}

-- depth to 65 and count of nodes to 4097
abbrev pub capped : ℕ → ℕ → Size
capped depth nodes = record { depth = min depth 65; nodes = min nodes 4097 }

abbrev pub leaf_size : Size
leaf_size = record { depth = 1; nodes = 1 }

abbrev pub over_one : Size → Size
over_one a = capped (a.depth + 1) (a.nodes + 1)

abbrev pub over_two : Size → Size → Size
over_two a b = capped (max a.depth b.depth + 1) (a.nodes + b.nodes + 1)

abbrev pub joined : Size → Size → Size
joined a b = capped (max a.depth b.depth + 1) (a.nodes + b.nodes)

-- One node, with the size of each child in its place, and those of the bodies in the places of uses.
abbrev pub node_size : (ℕ → Size) → Node-F Size Size Size → Size
node_size call (Node-F.Literal n) = leaf_size
node_size call (Node-F.Leaf form) = leaf_size
node_size call (Node-F.Read cell place) = leaf_size
node_size call (Node-F.Call rule arguments) = call rule
node_size call (Node-F.Neg a) = over_one a
node_size call (Node-F.Inv a) = over_one a
node_size call (Node-F.Shl a by) = over_one a
node_size call (Node-F.Shr a by) = over_one a
node_size call (Node-F.Bin op a b) = over_two a b
node_size call (Node-F.Pick t a b) = capped (max t.depth (max a.depth b.depth) + 1) (t.nodes + (a.nodes + b.nodes) + 1)
node_size call (Node-F.Cast kind a) = over_one a
node_size call (Node-F.Fold op inames a) = over_one a

-- One test, likewise: tests are no nodes.
abbrev pub test_size : Test-F Size Size Size → Size
test_size (Test-F.Words rel a b) = joined a b
test_size (Test-F.Index rel a b) = record { depth = 1; nodes = 0 }
test_size (Test-F.All p q) = joined p q
test_size (Test-F.Any p q) = joined p q
test_size (Test-F.Not p) = capped (p.depth + 1) p.nodes

abbrev pub expr_size : Expr-F Size Size Size → Size
expr_size e = e.node

abbrev pub size_with : (ℕ → Size) → Expr → Size
size_with call = fold-Expr Size Size Size (node_size call) test_size expr_size

abbrev pub test_size_with : (ℕ → Size) → Test → Size
test_size_with call = fold-Test Size Size Size (node_size call) test_size expr_size

-- by a table; a rule that is not there stays a use
abbrev pub size_in : List Size → ℕ → Size
size_in table rule = slice_index_or table rule leaf_size

-- the sizes of the bodies, with uses replaced to the n-th depth
abbrev pub sizes_to : List SubstRule → ℕ → List Size
sizes_to rules zero = map (λ r. leaf_size) rules
sizes_to rules (suc n) = map (λ r. size_with (size_in (sizes_to rules n)) r.body) rules

abbrev pub sizes_of : List SubstRule → List Size
sizes_of rules = sizes_to rules (length rules)

-- the size of a tree as it is
abbrev pub size_of : Expr → Size
size_of e = capped (depth_of e) (nodes_of e)

abbrev pub size_of_test : Test → Size
size_of_test t = capped (depth_of_test t) (fold-Test ℕ ℕ ℕ count_node count_test count_expr t)
