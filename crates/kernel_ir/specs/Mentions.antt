-- What expressions mention, and where they may.
use Rattle.std.specs.Prelude.{ℕ, Bool, true, false, ◌&&◌, nat_eq, List, [], ◌∷◌, ◌++◌, length, slice_get, Option, Some, None}
use Rattle.std.specs.List.{list_all}
use Rattle.affine_rows.specs.declared.quasi.Quasi.{Quasi}
use Rattle.expr_tree.specs.declared.tree.Cell.{Cell}
use Rattle.expr_tree.specs.declared.tree.Cell.TheVariants.{Array, Temp}
use Rattle.expr_tree.specs.declared.tree.Node.TheOpen.{Node-F, Test-F, Expr-F}
use Rattle.expr_tree.specs.declared.tree.Test.{Test, fold-Test}
use Rattle.expr_tree.specs.declared.tree.Expr.{Expr, fold-Expr}
use Rattle.expr_tree.specs.Scenes.{mentions_only}
use Rattle.expr_tree.specs.Meaning.{combines}
use Rattle.kernel_ir.specs.declared.kernel.Kernel.{Kernel}
use Rattle.kernel_ir.specs.declared.kernel.Array as array
use Rattle.kernel_ir.specs.declared.kernel.Temp as temp

-- What may stand in an expression, by the variables in scope: reads by the count of subscripts, uses of rules, reductions.
pub record Allowed : Type 0 where
  pub read : Cell → ℕ → Bool
  pub call : ℕ → ℕ → Bool
  pub fold : List ℕ → List ℕ → Bool

-- One node, with the test of each child at a scope in its place: forms mention only what is in scope, and a reduction widens it.
abbrev pub node_allowed : Allowed → Node-F (List ℕ → Bool) (List ℕ → Bool) (List ℕ → Bool) → List ℕ → Bool
node_allowed w (Node-F.Literal n) scope = true
node_allowed w (Node-F.Leaf form) scope = mentions_only scope form
node_allowed w (Node-F.Read cell place) scope = w.read cell (length place) && list_all (mentions_only scope) place
node_allowed w (Node-F.Call rule arguments) scope = w.call rule (length arguments) && list_all (mentions_only scope) arguments
node_allowed w (Node-F.Neg a) scope = a scope
node_allowed w (Node-F.Inv a) scope = a scope
node_allowed w (Node-F.Shl a by) scope = a scope
node_allowed w (Node-F.Shr a by) scope = a scope
node_allowed w (Node-F.Bin op a b) scope = a scope && b scope
node_allowed w (Node-F.Pick t a b) scope = t scope && (a scope && b scope)
node_allowed w (Node-F.Cast kind a) scope = a scope
node_allowed w (Node-F.Fold op inames a) scope = combines op && (w.fold scope inames && a (scope ++ inames))

abbrev pub test_allowed : Test-F (List ℕ → Bool) (List ℕ → Bool) (List ℕ → Bool) → List ℕ → Bool
test_allowed (Test-F.Words rel a b) scope = a scope && b scope
test_allowed (Test-F.Index rel a b) scope = mentions_only scope a && mentions_only scope b
test_allowed (Test-F.All p q) scope = p scope && q scope
test_allowed (Test-F.Any p q) scope = p scope && q scope
test_allowed (Test-F.Not p) scope = p scope

abbrev pub expr_allowed : Expr-F (List ℕ → Bool) (List ℕ → Bool) (List ℕ → Bool) → List ℕ → Bool
expr_allowed e = e.node

abbrev pub is_allowed : Allowed → Expr → List ℕ → Bool
is_allowed w = fold-Expr (List ℕ → Bool) (List ℕ → Bool) (List ℕ → Bool) (node_allowed w) test_allowed expr_allowed

abbrev pub is_allowed_test : Allowed → Test → List ℕ → Bool
is_allowed_test w = fold-Test (List ℕ → Bool) (List ℕ → Bool) (List ℕ → Bool) (node_allowed w) test_allowed expr_allowed

-- ---- lists of what stands in an expression, in the order of the text

-- What is listed of the nodes without parts, of tests of two forms, and of the inames of reductions.
pub record Listing (A : Type 0) : Type 0 where
  pub leaf : Quasi → List A
  pub read : Cell → List Quasi → List A
  pub call : ℕ → List Quasi → List A
  pub index : Quasi → Quasi → List A
  pub fold : List ℕ → List A

abbrev pub node_listed : {A : Type 0} → Listing A → Node-F (List A) (List A) (List A) → List A
node_listed w (Node-F.Literal n) = []
node_listed w (Node-F.Leaf form) = w.leaf form
node_listed w (Node-F.Read cell place) = w.read cell place
node_listed w (Node-F.Call rule arguments) = w.call rule arguments
node_listed w (Node-F.Neg a) = a
node_listed w (Node-F.Inv a) = a
node_listed w (Node-F.Shl a by) = a
node_listed w (Node-F.Shr a by) = a
node_listed w (Node-F.Bin op a b) = a ++ b
node_listed w (Node-F.Pick t a b) = t ++ (a ++ b)
node_listed w (Node-F.Cast kind a) = a
node_listed w (Node-F.Fold op inames a) = w.fold inames ++ a

abbrev pub test_listed : {A : Type 0} → Listing A → Test-F (List A) (List A) (List A) → List A
test_listed w (Test-F.Words rel a b) = a ++ b
test_listed w (Test-F.Index rel a b) = w.index a b
test_listed w (Test-F.All p q) = p ++ q
test_listed w (Test-F.Any p q) = p ++ q
test_listed w (Test-F.Not p) = p

abbrev pub expr_listed : {A : Type 0} → Expr-F (List A) (List A) (List A) → List A
expr_listed e = e.node

abbrev pub listed : {A : Type 0} → Listing A → Expr → List A
listed {A} w = fold-Expr (List A) (List A) (List A) (node_listed w) (test_listed w) expr_listed

abbrev pub listed_in_test : {A : Type 0} → Listing A → Test → List A
listed_in_test {A} w = fold-Test (List A) (List A) (List A) (node_listed w) (test_listed w) expr_listed

abbrev pub listed_in : {A : Type 0} → Listing A → Option Test → List A
listed_in w None = []
listed_in w (Some t) = listed_in_test w t

-- the forms
abbrev pub forms : Listing Quasi
forms = record { leaf = λ q. q ∷ []; read = λ cell place. place; call = λ rule arguments. arguments; index = λ a b. a ∷ b ∷ []; fold = λ inames. [] }

-- the inames of the reductions
abbrev pub folded : Listing ℕ
folded = record { leaf = λ q. []; read = λ cell place. []; call = λ rule arguments. []; index = λ a b. []; fold = λ inames. inames }

-- the rules that are used, each with the count of its arguments
abbrev pub calls : Listing (ℕ × ℕ)
calls = record { leaf = λ q. []; read = λ cell place. []; call = λ rule arguments. (rule, length arguments) ∷ []; index = λ a b. []; fold = λ inames. [] }

-- the reads
abbrev pub reads : Listing (Cell × List Quasi)
reads = record { leaf = λ q. []; read = λ cell place. (cell, place) ∷ []; call = λ rule arguments. []; index = λ a b. []; fold = λ inames. [] }

-- the reductions, each once
abbrev pub folds : Listing ℕ
folds = record { leaf = λ q. []; read = λ cell place. []; call = λ rule arguments. []; index = λ a b. []; fold = λ inames. length inames ∷ [] }

-- ---- what a kernel has

abbrev pub shape_length : Option array.Array → Option ℕ
shape_length None = None
shape_length (Some a) = Some (length a.shape)

abbrev pub temp_length : Option temp.Temp → Option ℕ
temp_length None = None
temp_length (Some t) = Some (length t.shape)

abbrev pub places_of : Kernel → Cell → Option ℕ
places_of K (Array n) = shape_length (slice_get K.arrays n)
places_of K (Temp n) = temp_length (slice_get K.temps n)

abbrev pub is_count : Option ℕ → ℕ → Bool
is_count None n = false
is_count (Some m) n = nat_eq m n

-- the kernel has the array or temporary, with so many places
abbrev pub has_cell : Kernel → Cell → ℕ → Bool
has_cell K cell n = is_count (places_of K cell) n
