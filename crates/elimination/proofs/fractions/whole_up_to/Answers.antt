use Rattle.std.proofs.Common.{rules, ◌≡◌, ◌*◌, ◌+◌, ◌≤◌, unsigned_abs, arith, FitsSigned, pos}
use Rattle.std.specs.Int.{w128, int_div_euclid}
use Rattle.std.proofs.lemmas.Int.{to_z-of_z}
use Rattle.elimination.proofs.Quotients.{quotient_low, quotient_high, quotient_times}
use Rattle.elimination.proofs.fractions.whole_up_to.Goals as goal

pub returns-clause-low : goal.returns-clause-low
returns-clause-low c =
    let number : FitsSigned w128 c.args.fraction.number = search rules in
    let fits : FitsSigned w128 c.quotient.result = search rules in
    let value : c.quotient.result ≡ int_div_euclid c.args.fraction.number (pos c.product.result) = simp to_z-of_z at c.quotient.ensures.value in
    simp to_z-of_z (quotient_low c.args.fraction.by c.args.over c.product.result c.args.fraction.number c.quotient.result c.product.ensures c.requires.bound.positive c.requires.positive value)

pub returns-clause-high : goal.returns-clause-high
returns-clause-high c =
    let number : FitsSigned w128 c.args.fraction.number = search rules in
    let fits : FitsSigned w128 c.quotient.result = search rules in
    let value : c.quotient.result ≡ int_div_euclid c.args.fraction.number (pos c.product.result) = simp to_z-of_z at c.quotient.ensures.value in
    simp to_z-of_z (quotient_high c.args.fraction.by c.args.over c.product.result c.args.fraction.number c.quotient.result c.product.ensures c.requires.bound.positive c.requires.positive value)

pub returns-clause-times : goal.returns-clause-times
returns-clause-times c =
    let number : FitsSigned w128 c.args.fraction.number = search rules in
    let fits : FitsSigned w128 c.quotient.result = search rules in
    let value : c.quotient.result ≡ int_div_euclid c.args.fraction.number (pos c.product.result) = simp to_z-of_z at c.quotient.ensures.value in
    let le : unsigned_abs c.quotient.result * c.args.over ≤ unsigned_abs c.args.fraction.number + c.args.over = quotient_times c.args.fraction.by c.args.over c.product.result c.args.fraction.number c.quotient.result c.product.ensures c.requires.bound.positive c.requires.positive value in
    simp to_z-of_z (omega (arith, le, c.requires.bound.number, c.requires.small))
