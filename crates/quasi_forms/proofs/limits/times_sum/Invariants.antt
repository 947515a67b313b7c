use Rattle.std.proofs.Common.{◌≡◌, ◌-◌, ◌^◌, min, take, sum_by, unsigned_abs}
use Rattle.affine_rows.specs.declared.quasi.Floor.{out-Floor}
use Rattle.quasi_forms.proofs.limits.times_sum.Given as goal

abbrev pub invariant-loop-floor : goal.invariant-loop-floor
invariant-loop-floor l = l.sum ≡ min (sum_by (λ f. unsigned_abs (out-Floor f).times) (take l.floor-index l.floors)) (2 ^ 64 - 1)
