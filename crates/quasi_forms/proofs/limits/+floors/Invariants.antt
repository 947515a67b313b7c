use Rattle.std.proofs.Common.{◌≡◌, ◌++◌, take}
use Rattle.std.specs.Prelude.{flat_map}
use Rattle.quasi_forms.specs.Limits.{floors_within}
use Rattle.quasi_forms.proofs.limits.+floors.Given as goal

abbrev pub invariant-add_floors-loop-floor : goal.invariant-add_floors-loop-floor
invariant-add_floors-loop-floor l = l.made.items ≡ l.initial.made.items ++ flat_map floors_within (take l.floor-index l.floors)
