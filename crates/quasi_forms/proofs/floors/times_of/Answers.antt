use Rattle.std.proofs.Common.{rules, to_z, FitsSigned}
use Rattle.std.specs.Int.{w128}
use Rattle.std.proofs.lemmas.Int.{to_z-of_z}
use Rattle.quasi_forms.proofs.FloorSums.{sum_next, small_next}
use Rattle.quasi_forms.proofs.floors.times_of.Goals as goal

pub loop-other-preserved : goal.loop-other-preserved
loop-other-preserved c =
    let sum_fits : FitsSigned w128 (to_z w128 c.loop-other.sum-bits) = search rules in
    let r_fits : FitsSigned w128 c.times_if_like.result = search rules in
    let made_fits : FitsSigned w128 c.plus-sum.result = search rules in
    let value = simp to_z-of_z at c.plus-sum.ensures.value in
    let small = simp to_z-of_z at c.plus-sum.ensures.small in
    record {
      value = simp to_z-of_z (sum_next c.args.floors.now c.loop-other.other-index c.args.floor.now c.other-item.result (to_z w128 c.loop-other.sum-bits) c.times_if_like.result c.plus-sum.result c.loop-other-test.true c.other-item.is c.times_if_like.ensures.like c.times_if_like.ensures.unlike c.loop-other.invariant.value value);
      small = simp to_z-of_z (small_next c.args.floors.now c.loop-other.other-index c.args.floor.now c.other-item.result (to_z w128 c.loop-other.sum-bits) c.times_if_like.result c.plus-sum.result c.loop-other-test.true c.other-item.is c.times_if_like.ensures.like c.times_if_like.ensures.unlike c.loop-other.invariant.small small);
    }
