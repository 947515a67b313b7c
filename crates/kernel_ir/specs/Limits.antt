-- The limits of a kernel.
use Rattle.std.specs.Prelude.{◌≡◌, ℕ, ◌+◌, ◌-◌, ◌*◌, ◌^◌, ◌≤◌, pos, neg_ℤ, Bool, false, ◌&&◌, nat_eq, List, [], ◌∷◌, ◌++◌, map, flat_map, filter, length, sum, Option, Some, None, All}
use Rattle.std.specs.Cmp.Lexicographic.{pointwise}
use Rattle.affine_rows.specs.declared.quasi.Quasi.{Quasi}
use Rattle.affine_rows.specs.declared.quasi.Floor.{Floor}
use Rattle.affine_rows.specs.Forms.{IsForm}
use Rattle.expr_tree.specs.declared.row.QuasiRow.{QuasiRow}
use Rattle.expr_tree.specs.declared.tree.Cell.{Cell}
use Rattle.expr_tree.specs.declared.tree.Cell.TheVariants.{Array, Temp}
use Rattle.expr_tree.specs.declared.tree.Node.TheOpen.{Node-F, Test-F, Expr-F}
use Rattle.expr_tree.specs.declared.tree.Test.{Test, fold-Test}
use Rattle.expr_tree.specs.declared.tree.Expr.{Expr, fold-Expr}
use Rattle.expr_tree.specs.Scenes.{mentions_only}
use Rattle.expr_tree.specs.Depth.{depth_of, depth_of_test}
use Rattle.quasi_forms.specs.Alike.{same_form, same_floor, distinct}
use Rattle.quasi_forms.specs.Limits.{floors_in}
use Rattle.quasi_forms.specs.Collected.{constant_form, sum_form}
use Rattle.quasi_forms.specs.Affine.{Part, collected_part, product_of_parts, is_constant}
use Rattle.kernel_ir.specs.declared.kernel.Kernel.{Kernel}
use Rattle.kernel_ir.specs.declared.kernel.Insn.{Insn}
use Rattle.kernel_ir.specs.declared.kernel.Temp as temp
use Rattle.kernel_ir.specs.declared.kernel.Storing.{Storing}
use Rattle.kernel_ir.specs.declared.kernel.Storing.TheVariants.{Plain, Update}
use Rattle.kernel_ir.specs.Mentions.{listed, listed_in, forms, folded, folds, reads}
use Rattle.kernel_ir.specs.Expanded.{expanded, expanded_test}

-- how many expression nodes there are, those in tests among them
abbrev pub count_node : Node-F ℕ ℕ ℕ → ℕ
count_node (Node-F.Literal n) = 1
count_node (Node-F.Leaf form) = 1
count_node (Node-F.Read cell place) = 1
count_node (Node-F.Call rule arguments) = 1
count_node (Node-F.Neg a) = a + 1
count_node (Node-F.Inv a) = a + 1
count_node (Node-F.Shl a by) = a + 1
count_node (Node-F.Shr a by) = a + 1
count_node (Node-F.Bin op a b) = a + b + 1
count_node (Node-F.Pick t a b) = t + (a + b) + 1
count_node (Node-F.Cast kind a) = a + 1
count_node (Node-F.Fold op inames a) = a + 1

abbrev pub count_test : Test-F ℕ ℕ ℕ → ℕ
count_test (Test-F.Words rel a b) = a + b
count_test (Test-F.Index rel a b) = 0
count_test (Test-F.All p q) = p + q
count_test (Test-F.Any p q) = p + q
count_test (Test-F.Not p) = p

abbrev pub count_expr : Expr-F ℕ ℕ ℕ → ℕ
count_expr e = e.node

abbrev pub nodes_of : Expr → ℕ
nodes_of = fold-Expr ℕ ℕ ℕ count_node count_test count_expr

abbrev pub nodes_of_test : Option Test → ℕ
nodes_of_test None = 0
nodes_of_test (Some t) = fold-Test ℕ ℕ ℕ count_node count_test count_expr t

abbrev pub depth_of_option : Option Test → ℕ
depth_of_option None = 0
depth_of_option (Some t) = depth_of_test t

-- the value of an update counts one deeper
abbrev pub value_depth : Storing → ℕ → ℕ
value_depth Plain n = n
value_depth (Update op) n = n + 1

-- ---- one instruction, rules replaced

abbrev pub value_of : Kernel → Insn → Expr
value_of K A = expanded K A.value

abbrev pub test_of : Kernel → Insn → Option Test
test_of K A = expanded_test K A.test

abbrev pub same_access : Cell × List Quasi → Cell × List Quasi → Bool
same_access (Array n, p) (Array m, q) = nat_eq n m && pointwise same_form p q
same_access (Temp n, p) (Temp m, q) = nat_eq n m && pointwise same_form p q
same_access _ _ = false

-- its store, then its reads as they stand in predicate and value, equal ones once
abbrev pub accesses_of : Kernel → Insn → List (Cell × List Quasi)
accesses_of K A = distinct same_access ((A.cell, A.place) ∷ (listed_in reads (test_of K A) ++ listed reads (value_of K A)))

-- its inames, those of its reductions among them
abbrev pub all_inames : Insn → List ℕ
all_inames A = A.inames ++ (listed_in folded A.test ++ listed folded A.value)

-- its reductions
abbrev pub fold_count : Insn → ℕ
fold_count A = length (listed_in folds A.test ++ listed folds A.value)

-- the domain rows that mention only its inames and parameters, those of its reductions among them
abbrev pub domain_rows : Kernel → Insn → List QuasiRow
domain_rows K A = filter (λ r. mentions_only (K.params ++ all_inames A) r.form) K.rows

-- all forms of it, with those of its domain rows, the assumptions and the shapes
abbrev pub forms_of : Kernel → Insn → List Quasi
forms_of K A =
    map (λ r. r.form) (domain_rows K A ++ (A.rows ++ K.assumptions)) ++ (flat_map (λ a. a.shape) K.arrays
    ++ (A.place ++ (listed_in forms (test_of K A) ++ listed forms (value_of K A))))

abbrev pub floors_of_insn : Kernel → Insn → List Floor
floors_of_insn K A = distinct same_floor (flat_map floors_in (forms_of K A))

pub record IsWithin (K : Kernel) (A : Insn) : Type 0 where
  pub forms : All IsForm (forms_of K A)
  pub inames : length (all_inames A) ≤ 16
  pub value_depth : value_depth A.storing (depth_of (value_of K A)) ≤ 64
  pub test_depth : depth_of_option (test_of K A) ≤ 64
  pub nodes : nodes_of_test (test_of K A) + nodes_of (value_of K A) ≤ 4096
  pub accesses : length (accesses_of K A) ≤ 64
  pub floors : length (floors_of_insn K A) ≤ 32

-- ---- the whole kernel

abbrev pub product : List ℕ → ℕ
product [] = 1
product (n ∷ ns) = n * product ns

abbrev pub IsSmallTemp : temp.Temp → Type 0
IsSmallTemp t = t.local ≡ false → product t.shape ≤ 4096

-- a shape entry as an index expression
abbrev pub entry_part : Quasi → Part
entry_part q = collected_part (is_constant q) [] q

-- the product with further entries, from left to right, if at most one of all is no number
abbrev pub size_from : Option Part → List Quasi → Option Part
size_from size [] = size
size_from size (q ∷ qs) = size_from (product_of_parts size (Some (entry_part q))) qs

abbrev pub size_part : List Quasi → Option Part
size_part [] = None
size_part (q ∷ qs) = size_from (Some (entry_part q)) qs

-- the forms that are collected for the row that says that the product is at most 2^31-1, that of the row the last
abbrev pub size_forms : Option Part → List Quasi
size_forms None = []
size_forms (Some size) = size.steps ++ sum_form (constant_form (pos (2 ^ 31 - 1))) (neg_ℤ (pos 1)) size.form ∷ []

-- each instruction counts one, and each of its reductions two
abbrev pub insn_count : Kernel → ℕ
insn_count K = sum (map (λ A. 1 + 2 * fold_count A) K.insns)

pub record IsWithinLimits (K : Kernel) : Type 0 where
  pub names : length K.names ≤ 65536
  pub params : length K.params ≤ 16
  pub count : insn_count K ≤ 64
  pub places : All (λ a. length a.shape ≤ 8) K.arrays
  pub temp_places : All (λ t. length t.shape ≤ 8) K.temps
  pub cells : All IsSmallTemp K.temps
  pub sizes : All (λ a. All IsForm (size_forms (size_part a.shape))) K.arrays
  pub bodies : All (λ r. depth_of (expanded K r.body) ≤ 64) K.rules
  pub insns : All (IsWithin K) K.insns
