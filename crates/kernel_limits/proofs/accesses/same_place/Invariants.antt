use Rattle.std.proofs.Common.{◌≡◌, drop}
use Rattle.std.specs.Cmp.Lexicographic.{pointwise}
use Rattle.quasi_forms.specs.Alike.{same_form}
use Rattle.kernel_limits.proofs.accesses.same_place.Given as goal

abbrev pub invariant-loop-i : goal.invariant-loop-i
invariant-loop-i l = pointwise same_form (drop l.i l.left) (drop l.i l.right) ≡ pointwise same_form l.left l.right
