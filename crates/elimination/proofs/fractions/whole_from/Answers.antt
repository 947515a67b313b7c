use Rattle.std.proofs.Common.{rules, ◌≡◌, ◌*◌, ◌+◌, ◌^◌, ◌≤◌, unsigned_abs, arith, FitsSigned, pos, neg_ℤ, ◌+ℤ◌, ◌*ℤ◌}
use Rattle.std.specs.Prelude.{◌<ℤ◌}
use Rattle.std.specs.Int.{w128}
use Rattle.std.proofs.lemmas.Int.{ints, to_z-of_z}
use Rattle.elimination.proofs.Quotients.{opposite_low}
use Rattle.elimination.proofs.fractions.whole_from.Goals as goal

pub returns-clause-low : goal.returns-clause-low
returns-clause-low c =
    let number : FitsSigned w128 c.args.fraction.number = search rules in
    let one : FitsSigned w128 c.negated.result = search rules in
    let two : FitsSigned w128 c.whole_up_to.result = search rules in
    let three : FitsSigned w128 c.negated-2.result = search rules in
    let e : c.negated.result ≡ neg_ℤ c.args.fraction.number = simp to_z-of_z at c.negated.ensures.value in
    let f : c.negated-2.result ≡ neg_ℤ c.whole_up_to.result = simp to_z-of_z at c.negated-2.ensures.value in
    let high : c.negated.result <ℤ (pos (c.args.fraction.by * c.args.over) *ℤ (c.whole_up_to.result +ℤ pos 1)) = simp to_z-of_z at c.whole_up_to.ensures.high in
    simp to_z-of_z (rw f (opposite_low (c.args.fraction.by * c.args.over) c.args.fraction.number c.whole_up_to.result (rw e at high)))

pub returns-clause-times : goal.returns-clause-times
returns-clause-times c =
    let two : FitsSigned w128 c.whole_up_to.result = search rules in
    let three : FitsSigned w128 c.negated-2.result = search rules in
    let f : c.negated-2.result ≡ neg_ℤ c.whole_up_to.result = simp to_z-of_z at c.negated-2.ensures.value in
    let size : unsigned_abs c.negated-2.result ≡ unsigned_abs c.whole_up_to.result = omega (arith, ints, f) in
    let le : unsigned_abs c.whole_up_to.result * c.args.over ≤ 2 ^ 126 + 2 ^ 56 = c.whole_up_to.ensures.times in
    simp to_z-of_z (rw size le)
