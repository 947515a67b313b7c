use Rattle.std.proofs.Common.{◌<◌}
use Rattle.elimination.proofs.Marking.{Marked}
use Rattle.elimination.proofs.dropping.marks_of.Given as goal

abbrev pub invariant-loop-i : goal.invariant-loop-i
invariant-loop-i l = record {
  some : 0 < l.i;
  marked : Marked l.rows l.places.items l.i l.marks.items;
}
