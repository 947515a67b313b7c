use Rattle.std.proofs.Common.{◌≡◌, ◌≤◌, length, take}
use Rattle.quasi_forms.specs.Alike.{same_floor, distinct}
use Rattle.quasi_forms.proofs.limits.few_different.Given as goal

abbrev pub invariant-loop-floor : goal.invariant-loop-floor
invariant-loop-floor l = record { made : l.known.items ≡ distinct same_floor (take l.floor-index l.floors); few : length l.known.items ≤ 32 }
