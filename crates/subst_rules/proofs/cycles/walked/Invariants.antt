use Rattle.std.proofs.Common.{◌≡◌, ◌-◌, length}
use Rattle.subst_rules.specs.Walks.{IsWalk, IsWalked}
use Rattle.subst_rules.proofs.cycles.walked.Given as goal

abbrev pub invariant-steps : goal.invariant-steps
invariant-steps l = record {
  walk : IsWalk l.walk.marks.items l.walk.work.items;
  count : length l.walk.marks.items ≡ length l.bodies;
  walked : IsWalked l.bodies l.from l.walk.work.items l.done;
}

abbrev pub decreases-steps : goal.decreases-steps
decreases-steps l = length l.bodies - l.done
