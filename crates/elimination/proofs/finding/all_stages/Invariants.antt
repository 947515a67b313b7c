use Rattle.std.proofs.Common.{◌≡◌, ◌≤◌, ◌-◌, [], map, length}
use Rattle.affine_rows.specs.Reduced.{reduced_row}
use Rattle.elimination.specs.Stages.{cancelled_from}
use Rattle.elimination.specs.Refusals.{AreWithin}
use Rattle.elimination.specs.Finding.{AreStages}
use Rattle.elimination.proofs.finding.all_stages.Given as goal

abbrev pub invariant-variables : goal.invariant-variables
invariant-variables l = record {
  stages : AreStages l.system.width (map reduced_row l.system.rows) l.next l.stages.items;
  within : AreWithin (cancelled_from [] l.next l.system.width) (map reduced_row l.system.rows);
  count : l.system.width - l.next ≡ length (cancelled_from [] l.next l.system.width);
  below : l.next ≤ l.system.width;
}

abbrev pub decreases-variables : goal.decreases-variables
decreases-variables l = l.next
