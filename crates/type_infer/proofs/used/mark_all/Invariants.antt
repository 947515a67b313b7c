use Rattle.std.proofs.Common.{◌≤◌, length}
use Rattle.type_infer.proofs.Marks.{IsMarked}
use Rattle.type_infer.proofs.used.mark_all.Given as goal

abbrev pub invariant-back : goal.invariant-back
invariant-back l = record { within : l.at ≤ length l.order; marked : IsMarked l.uses l.order l.rules l.at l.marks }

abbrev pub decreases-back : goal.decreases-back
decreases-back l = l.at
