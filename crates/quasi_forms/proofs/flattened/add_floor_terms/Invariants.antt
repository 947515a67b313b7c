use Rattle.std.proofs.Common.{◌≡◌, ◌++◌, ◌*ℤ◌, take, map}
use Rattle.affine_rows.specs.declared.quasi.Floor.{out-Floor}
use Rattle.quasi_forms.specs.Flattened.{floor_var}
use Rattle.quasi_forms.proofs.flattened.add_floor_terms.Given as goal

abbrev pub invariant-loop-floor : goal.invariant-loop-floor
invariant-loop-floor l = l.made.items ≡ l.initial.made.items ++ map (λ f. (floor_var l.fn.width l.floors f, l.fn.by *ℤ (out-Floor f).times)) (take l.floor-index l.parts)
