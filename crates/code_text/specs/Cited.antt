-- Lists of references, and the cells of a statement.
use Rattle.std.specs.Prelude.{List, map}
use Rattle.std.specs.Borrow.{Bor}
use Rattle.code_tree.specs.declared.code.CodeCell.{CodeCell}
use Rattle.code_tree.specs.declared.code.Stmt.{Stmt, fold-Stmt}
use Rattle.code_tree.specs.Cells.{block_cells, stmt_cells}

-- what the references point to
abbrev pub values : List (Bor CodeCell) → List CodeCell
values cells = map (λ c. c.now) cells

-- the cells of a statement's block in text order
abbrev pub cells_within : Stmt → List CodeCell
cells_within = fold-Stmt (List CodeCell) (List CodeCell) stmt_cells block_cells
