use Rattle.std.proofs.Common.{take}
use Rattle.elimination.specs.Fractions.{IsAnyBound}
use Rattle.elimination.proofs.Tightening.{RespectsRows}
use Rattle.elimination.proofs.bounding.tightest.Given as goal

abbrev pub invariant-loop-row : goal.invariant-loop-row
invariant-loop-row l = record {
  bound : IsAnyBound l.best;
  respects : RespectsRows l.side l.var l.point (take l.row-index l.rows) l.best;
}
