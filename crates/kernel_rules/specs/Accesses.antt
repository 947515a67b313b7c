-- The cells that an instruction stores and reads.
use Rattle.std.specs.Prelude.{ℕ, Bool, true, false, ◌&&◌, nat_eq, List, [], ◌∷◌, ◌++◌, Option, Some, None}
use Rattle.std.specs.Cmp.Lexicographic.{pointwise}
use Rattle.affine_rows.specs.declared.quasi.Quasi.{Quasi}
use Rattle.expr_tree.specs.declared.tree.Cell.{Cell}
use Rattle.expr_tree.specs.declared.tree.Cell.TheVariants.{Array, Temp}
use Rattle.expr_tree.specs.declared.tree.Node.{Node, fold-Node}
use Rattle.expr_tree.specs.declared.tree.Node.TheOpen.{Node-F, Test-F, Expr-F}
use Rattle.expr_tree.specs.declared.tree.Test.{Test, fold-Test}
use Rattle.expr_tree.specs.declared.tree.Expr.{Expr, fold-Expr}
use Rattle.kernel_ir.specs.declared.kernel.Kernel.{Kernel}
use Rattle.kernel_ir.specs.declared.kernel.Insn.{Insn}
use Rattle.quasi_forms.specs.Alike.{same_form, distinct}
use Rattle.kernel_limits.specs.Asked.{expanded_insn}
use Rattle.kernel_rules.specs.declared.access.Access.{Access}

-- a read of a cell within reductions over these inames
abbrev pub read_access : Cell → List Quasi → List ℕ → Access
read_access cell place folds = record { cell = cell; place = place; store = false; folds = folds }

-- One node, with the reads of each child within reductions in its place; a reduction stands round the reads in it.
abbrev pub node_reads : Node-F (List ℕ → List Access) (List ℕ → List Access) (List ℕ → List Access) → List ℕ → List Access
node_reads (Node-F.Literal n) folds = []
node_reads (Node-F.Leaf form) folds = []
node_reads (Node-F.Read cell place) folds = read_access cell place folds ∷ []
node_reads (Node-F.Call rule arguments) folds = []
node_reads (Node-F.Neg a) folds = a folds
node_reads (Node-F.Inv a) folds = a folds
node_reads (Node-F.Shl a by) folds = a folds
node_reads (Node-F.Shr a by) folds = a folds
node_reads (Node-F.Bin op a b) folds = a folds ++ b folds
node_reads (Node-F.Pick t a b) folds = t folds ++ (a folds ++ b folds)
node_reads (Node-F.Cast kind a) folds = a folds
node_reads (Node-F.Fold op inames a) folds = a (folds ++ inames)

abbrev pub test_reads : Test-F (List ℕ → List Access) (List ℕ → List Access) (List ℕ → List Access) → List ℕ → List Access
test_reads (Test-F.Words rel a b) folds = a folds ++ b folds
test_reads (Test-F.Index rel a b) folds = []
test_reads (Test-F.All p q) folds = p folds ++ q folds
test_reads (Test-F.Any p q) folds = p folds ++ q folds
test_reads (Test-F.Not p) folds = p folds

abbrev pub expr_reads : Expr-F (List ℕ → List Access) (List ℕ → List Access) (List ℕ → List Access) → List ℕ → List Access
expr_reads e = e.node

-- the reads in an expression, in the order of the text
abbrev pub reads_in : Expr → List ℕ → List Access
reads_in = fold-Expr (List ℕ → List Access) (List ℕ → List Access) (List ℕ → List Access) node_reads test_reads expr_reads

abbrev pub reads_in_node : Node → List ℕ → List Access
reads_in_node = fold-Node (List ℕ → List Access) (List ℕ → List Access) (List ℕ → List Access) node_reads test_reads expr_reads

abbrev pub reads_in_test : Test → List ℕ → List Access
reads_in_test = fold-Test (List ℕ → List Access) (List ℕ → List Access) (List ℕ → List Access) node_reads test_reads expr_reads

abbrev pub reads_in_option : Option Test → List ℕ → List Access
reads_in_option None folds = []
reads_in_option (Some t) folds = reads_in_test t folds

abbrev pub same_cell : Cell → Cell → Bool
same_cell (Array n) (Array m) = nat_eq n m
same_cell (Temp n) (Temp m) = nat_eq n m
same_cell _ _ = false

abbrev pub same_bool : Bool → Bool → Bool
same_bool true b = b
same_bool false true = false
same_bool false false = true

-- two accesses of one cell at the same subscripts within the same reductions, both stores or both reads
abbrev pub same_access : Access → Access → Bool
same_access a b = same_cell a.cell b.cell && (pointwise same_form a.place b.place && (same_bool a.store b.store && pointwise nat_eq a.folds b.folds))

abbrev pub store_of : Insn → Access
store_of A = record { cell = A.cell; place = A.place; store = true; folds = [] }

-- the store, then the reads as they stand in predicate and value
abbrev pub listed_accesses : Insn → List Access
listed_accesses A = store_of A ∷ (reads_in_option A.test [] ++ reads_in A.value [])

-- those of an instruction without uses of rules, equal ones once
abbrev pub plain_accesses : Insn → List Access
plain_accesses A = distinct same_access (listed_accesses A)

-- those of an instruction, each use of a rule replaced by the rule's body
abbrev pub accesses_of : Kernel → Insn → List Access
accesses_of K A = plain_accesses (expanded_insn K A)
