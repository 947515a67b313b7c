use Rattle.std.proofs.Common.{◌≡◌, drop}
use Rattle.quasi_forms.specs.Alike.{same_floors}
use Rattle.quasi_forms.proofs.alike.+same.Given as goal

abbrev pub invariant-same_floors-loop-i : goal.invariant-same_floors-loop-i
invariant-same_floors-loop-i l = same_floors (drop l.i l.left) (drop l.i l.right) ≡ same_floors l.left l.right
