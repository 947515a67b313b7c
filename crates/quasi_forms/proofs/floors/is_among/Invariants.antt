use Rattle.std.proofs.Common.{◌≡◌, false, take}
use Rattle.std.specs.List.{list_any}
use Rattle.quasi_forms.specs.Alike.{same_floor}
use Rattle.quasi_forms.proofs.floors.is_among.Given as goal

abbrev pub invariant-loop-other : goal.invariant-loop-other
invariant-loop-other l = list_any (λ x. same_floor x l.floor) (take l.other-index l.floors) ≡ false
