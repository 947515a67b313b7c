use Rattle.std.proofs.Common.{rules, ◌≡◌, ◌/◌, arith, FitsSigned, pos, unsigned_abs}
use Rattle.std.specs.Int.{w128, int_div_euclid}
use Rattle.std.proofs.lemmas.Int.{to_z-of_z}
use Rattle.elimination.proofs.Quotients.{IsLowest, lowest}
use Rattle.elimination.proofs.fractions.reduced.Goals as goal

pub quotient-requires-clause-positive : goal.quotient-requires-clause-positive
quotient-requires-clause-positive c = c.common_divisor-divisor.ensures.some

pub quotient-requires-clause-small : goal.quotient-requires-clause-small
quotient-requires-clause-small c = omega (arith, c.common_divisor-divisor.ensures.small, c.from-by.ensures, c.requires.by)

pub nonzero_div-result : goal.nonzero_div-result
nonzero_div-result c = c.common_divisor-divisor.ensures.some

pub returns-clause-same : goal.returns-clause-same
returns-clause-same c =
    let number : FitsSigned w128 c.args.fraction.number = search rules in
    let fits : FitsSigned w128 c.quotient.result = search rules in
    let size : c.unsigned_abs.result ≡ unsigned_abs c.args.fraction.number = simp to_z-of_z at c.unsigned_abs.ensures.value in
    let value : c.quotient.result ≡ int_div_euclid c.args.fraction.number (pos c.common_divisor-divisor.result) = simp to_z-of_z at c.quotient.ensures.value in
    let all : IsLowest c.args.fraction (record { number = c.quotient.result; by = c.from-by.result / c.common_divisor-divisor.result }) = lowest c.args.fraction c.unsigned_abs.result c.from-by.result c.common_divisor-divisor.result c.quotient.result size c.from-by.ensures c.common_divisor-divisor.ensures.some c.common_divisor-divisor.ensures.first c.common_divisor-divisor.ensures.second c.common_divisor-divisor.ensures.greatest value in
    simp to_z-of_z all.same

pub returns-clause-reduced : goal.returns-clause-reduced
returns-clause-reduced c =
    let number : FitsSigned w128 c.args.fraction.number = search rules in
    let fits : FitsSigned w128 c.quotient.result = search rules in
    let size : c.unsigned_abs.result ≡ unsigned_abs c.args.fraction.number = simp to_z-of_z at c.unsigned_abs.ensures.value in
    let value : c.quotient.result ≡ int_div_euclid c.args.fraction.number (pos c.common_divisor-divisor.result) = simp to_z-of_z at c.quotient.ensures.value in
    let all : IsLowest c.args.fraction (record { number = c.quotient.result; by = c.from-by.result / c.common_divisor-divisor.result }) = lowest c.args.fraction c.unsigned_abs.result c.from-by.result c.common_divisor-divisor.result c.quotient.result size c.from-by.ensures c.common_divisor-divisor.ensures.some c.common_divisor-divisor.ensures.first c.common_divisor-divisor.ensures.second c.common_divisor-divisor.ensures.greatest value in
    simp to_z-of_z all.reduced
