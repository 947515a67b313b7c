use Rattle.std.proofs.Common.{take}
use Rattle.elimination.specs.Points.{HoldAt}
use Rattle.elimination.proofs.finding.all_hold.Given as goal

abbrev pub invariant-loop-row : goal.invariant-loop-row
invariant-loop-row l = HoldAt (take l.row-index l.rows) l.point
