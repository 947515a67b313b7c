use Rattle.std.proofs.Common.{◌≡◌, take}
use Rattle.quasi_forms.specs.Alike.{same_floor, distinct}
use Rattle.quasi_forms.proofs.floors.different.Given as goal

abbrev pub invariant-loop-at : goal.invariant-loop-at
invariant-loop-at l = l.made.items ≡ distinct same_floor (take l.at l.floors)
