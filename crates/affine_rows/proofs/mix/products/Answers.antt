use Rattle.std.proofs.Common.{◌≡◌, arith, rules}
use Rattle.std.specs.Prelude.{◌+ℤ◌, ◌*ℤ◌, FitsSigned}
use Rattle.std.proofs.lemmas.Int.{ints, to_z-of_z}
use Rattle.std.specs.Int.{w64, w128}
use Rattle.affine_rows.proofs.mix.products.Goals as goal

pub returns-clause-value : goal.returns-clause-value
returns-clause-value c =
    let first : FitsSigned w128 c.product.result = search rules in
    let second : FitsSigned w128 c.product-2.result = search rules in
    let both : FitsSigned w128 (c.product.result +ℤ c.product-2.result) = omega (arith, ints, c.product.ensures.small, c.product-2.ensures.small) in
    let p_fits : FitsSigned w64 c.args.p = c.ranges.p in
    let first_fits : FitsSigned w64 c.args.first = c.ranges.first in
    let q_fits : FitsSigned w64 c.args.q = c.ranges.q in
    let second_fits : FitsSigned w64 c.args.second = c.ranges.second in
    let left : c.product.result ≡ c.args.p *ℤ c.args.first = simp to_z-of_z at c.product.ensures.value in
    let right : c.product-2.result ≡ c.args.q *ℤ c.args.second = simp to_z-of_z at c.product-2.ensures.value in
    simp to_z-of_z (rw (left, right))
