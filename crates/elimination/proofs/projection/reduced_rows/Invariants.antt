use Rattle.std.proofs.Common.{◌≡◌, take, map}
use Rattle.affine_rows.specs.Reduced.{reduced_row}
use Rattle.elimination.proofs.projection.reduced_rows.Given as goal

abbrev pub invariant-loop-row : goal.invariant-loop-row
invariant-loop-row l = l.made.items ≡ map reduced_row (take l.row-index l.rows)
