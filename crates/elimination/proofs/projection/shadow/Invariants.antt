use Rattle.std.proofs.Common.{◌≡◌, ◌≤◌, ◌+◌, map, length}
use Rattle.affine_rows.specs.Reduced.{reduced_row}
use Rattle.elimination.specs.Stages.{IsSystem, cancelled_from, shadow_rows}
use Rattle.elimination.specs.Refusals.{AreWithin}
use Rattle.elimination.proofs.projection.shadow.Given as goal

abbrev pub invariant-variables : goal.invariant-variables
invariant-variables l = record {
  width : l.made.width ≡ l.system.width;
  system : IsSystem l.made;
  rows : l.made.rows ≡ shadow_rows (cancelled_from l.keep l.next l.system.width) (map reduced_row l.system.rows);
  few : l.number + l.next ≤ l.system.width;
  within : AreWithin (cancelled_from l.keep l.next l.system.width) (map reduced_row l.system.rows);
  count : l.number ≡ length (cancelled_from l.keep l.next l.system.width);
}

abbrev pub decreases-variables : goal.decreases-variables
decreases-variables l = l.next
