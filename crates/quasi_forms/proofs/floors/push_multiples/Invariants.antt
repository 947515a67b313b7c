use Rattle.std.proofs.Common.{◌≡◌, ◌++◌, take}
use Rattle.quasi_forms.specs.Collected.{multiple_floors}
use Rattle.quasi_forms.proofs.floors.push_multiples.Given as goal

abbrev pub invariant-loop-floor : goal.invariant-loop-floor
invariant-loop-floor l = l.made.items ≡ l.initial.made.items ++ multiple_floors l.fn.by (take l.floor-index l.floors)
