use Rattle.std.proofs.Common.{arith, FitsSigned, ◌^◌, ◌*ℤ◌}
use Rattle.std.specs.Int.{w64, w128}
use Rattle.std.proofs.lemmas.Int.{ints, to_z-of_z, fits_signed_from_abs}
use Rattle.affine_rows.proofs.Sums.{abs-product}
use Rattle.affine_rows.proofs.mix.product.Goals as goal

pub returns-clause-small : goal.returns-clause-small
returns-clause-small c =
    let g1 : FitsSigned w64 c.args.p = c.ranges.p in
    let g2 : FitsSigned w64 c.args.factor = c.ranges.factor in
    let f1 : FitsSigned w128 c.args.p = omega (arith, ints) in
    let f2 : FitsSigned w128 c.args.factor = omega (arith, ints) in
    let p = abs-product c.args.p c.args.factor (2 ^ 62) (2 ^ 63) c.requires (omega (arith, ints)) in
    let f3 : FitsSigned w128 (c.args.p *ℤ c.args.factor) = fits_signed_from_abs w128 _ (omega (arith, p)) in
    let e1 = simp to_z-of_z at c.from.ensures in
    let e2 = simp to_z-of_z at c.from-2.ensures in
    rw (e1, e2) (simp to_z-of_z (omega (arith, p)))
