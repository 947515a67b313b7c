use Rattle.std.proofs.Common.{◌≡◌, true, take}
use Rattle.std.specs.List.{list_all}
use Rattle.affine_rows.specs.declared.quasi.Floor.{out-Floor}
use Rattle.quasi_forms.specs.Affine.{is_constant}
use Rattle.quasi_forms.proofs.affine.+constant.Given as goal

abbrev pub invariant-are_constant-loop-floor : goal.invariant-are_constant-loop-floor
invariant-are_constant-loop-floor l = list_all (λ f. is_constant (out-Floor f).inner) (take l.floor-index l.floors) ≡ true
