-- What is written, followed by the cells that are left, is all cells.
use Rattle.std.proofs.Common.{◌≡◌, ◌++◌, drop}
use Rattle.code_text.specs.StatementText.{cell_lines}
use Rattle.code_text.proofs.statements.write_cells.Given as goal

abbrev pub invariant-loop-cell : goal.invariant-loop-cell
invariant-loop-cell l = l.out.items ++ cell_lines l.target l.depth (drop l.cell-index l.cells) ≡ l.fn.out.items ++ cell_lines l.target l.depth l.cells
