use Rattle.std.proofs.Common.{[], map}
use Rattle.affine_rows.specs.Reduced.{reduced_row}
use Rattle.elimination.specs.Stages.{cancelled_from, shadow_rows}
use Rattle.elimination.specs.Points.{HoldAt, IsChosen}
use Rattle.elimination.specs.Finding.{IsFixed}
use Rattle.elimination.proofs.finding.find_point.Given as goal

abbrev pub invariant-loop-var : goal.invariant-loop-var
invariant-loop-var l = record {
  chosen : IsChosen l.system.width (map reduced_row l.system.rows) l.var l.point;
  fixed : IsFixed l.system.width l.var l.point;
  holds : HoldAt (shadow_rows (cancelled_from [] l.var l.system.width) (map reduced_row l.system.rows)) l.point;
}
