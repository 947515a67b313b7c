-- The cells of a code in text order, and the kinds of arrays and cells.
use Rattle.std.specs.Prelude.{List, [], ◌∷◌, ◌++◌, Option, Some, None, slice_get}
use Rattle.wrap_words.specs.declared.kind.Kind.{Kind}
use Rattle.wrap_words.specs.declared.kind.Kind.TheVariants.{I32}
use Rattle.expr_tree.specs.declared.tree.Cell.{Cell}
use Rattle.expr_tree.specs.declared.tree.Cell.TheVariants.{Array, Temp}
use Rattle.code_tree.specs.declared.code.CodeArray.{CodeArray}
use Rattle.code_tree.specs.declared.code.CodeCell.{CodeCell}
use Rattle.code_tree.specs.declared.code.Code.{Code}
use Rattle.code_tree.specs.declared.code.Block.{Block, fold-Block}
use Rattle.code_tree.specs.declared.code.Stmt.TheOpen.{Block-F, Stmt-F}

-- lists one after the other
abbrev pub joined : {A : Type 0} → List (List A) → List A
joined [] = []
joined (xs ∷ more) = xs ++ joined more

-- a block's own cells, then those inside it
abbrev pub block_cells : Block-F (List CodeCell) (List CodeCell) → List CodeCell
block_cells b = b.cells ++ joined b.children

abbrev pub stmt_cells : Stmt-F (List CodeCell) (List CodeCell) → List CodeCell
stmt_cells (Stmt-F.Loop var lower upper body) = body
stmt_cells (Stmt-F.When rows body) = body
stmt_cells (Stmt-F.Check test body) = body
stmt_cells (Stmt-F.Set target subscript value) = []
stmt_cells Stmt-F.Barrier = []

abbrev pub cells_in : Block → List CodeCell
cells_in = fold-Block (List CodeCell) (List CodeCell) stmt_cells block_cells

-- all cells in text order, the local ones first
abbrev pub cells_of : Code → List CodeCell
cells_of code = code.locals ++ cells_in code.body

abbrev pub array_kind : Option CodeArray → Kind
array_kind None = I32
array_kind (Some a) = a.kind

abbrev pub cell_kind : Option CodeCell → Kind
cell_kind None = I32
cell_kind (Some c) = c.kind

-- the kind of an array or cell
abbrev pub kind_in : Code → Cell → Kind
kind_in code (Array k) = array_kind (slice_get code.arrays k)
kind_in code (Temp k) = cell_kind (slice_get (cells_of code) k)
