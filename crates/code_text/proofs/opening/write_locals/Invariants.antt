-- What is written, followed by the cells that are left, is all cells.
use Rattle.std.proofs.Common.{◌≡◌, ◌++◌, drop}
use Rattle.code_text.specs.OpeningText.{local_lines}
use Rattle.code_text.proofs.opening.write_locals.Given as goal

abbrev pub invariant-loop-cell : goal.invariant-loop-cell
invariant-loop-cell l = l.out.items ++ local_lines l.target (drop l.cell-index l.cells) ≡ l.fn.out.items ++ local_lines l.target l.cells
