use Rattle.std.proofs.Common.{◌≡◌, drop}
use Rattle.quasi_forms.specs.Alike.{same_terms}
use Rattle.quasi_forms.proofs.alike.same_terms.Given as goal

abbrev pub invariant-loop-i : goal.invariant-loop-i
invariant-loop-i l = same_terms (drop l.i l.left) (drop l.i l.right) ≡ same_terms l.left l.right
