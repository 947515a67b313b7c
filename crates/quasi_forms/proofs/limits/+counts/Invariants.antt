use Rattle.std.proofs.Common.{◌≡◌, ◌-◌, ◌^◌, min, take, map, sum}
use Rattle.affine_rows.specs.Reach.{floor_sum, floor_constant}
use Rattle.quasi_forms.proofs.limits.+counts.Given as goal

abbrev pub invariant-floors_counts-loop-floor : goal.invariant-floors_counts-loop-floor
invariant-floors_counts-loop-floor l = record {
  sums : l.counts.sum ≡ min (sum (map floor_sum (take l.floor-index l.floors))) (2 ^ 64 - 1);
  constants : l.counts.constant ≡ min (sum (map floor_constant (take l.floor-index l.floors))) (2 ^ 64 - 1);
}
