use Rattle.std.proofs.Common.{◌≡◌, ◌+◌, ◌&&◌, drop}
use Rattle.std.specs.List.{position_or_len}
use Rattle.std.specs.Ordering.{int_eq}
use Rattle.affine_rows.specs.declared.quasi.Floor.{out-Floor}
use Rattle.quasi_forms.specs.Alike.{same_form}
use Rattle.quasi_forms.proofs.floors.place_of.Given as goal

abbrev pub invariant-loop-at : goal.invariant-loop-at
invariant-loop-at l = l.at + position_or_len (λ g. int_eq l.by (out-Floor g).by && same_form l.inner (out-Floor g).inner) (drop l.at l.floors) ≡ position_or_len (λ g. int_eq l.by (out-Floor g).by && same_form l.inner (out-Floor g).inner) l.floors
