-- The local cells that were listed.
use Rattle.std.proofs.Common.{◌≡◌, take}
use Rattle.code_text.specs.Cited.{values}
use Rattle.code_text.proofs.cells.list_cells.Given as goal

abbrev pub invariant-loop-cell : goal.invariant-loop-cell
invariant-loop-cell l = values l.cells.items ≡ take l.cell-index l.fn.code.locals
