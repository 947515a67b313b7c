use Rattle.std.proofs.Common.{arith, FitsSigned, ◌^◌, ◌*ℤ◌, unsigned_abs}
use Rattle.std.specs.Int.{w64, w128}
use Rattle.std.proofs.lemmas.Int.{ints, to_z-of_z, fits_signed_from_abs}
use Rattle.affine_rows.proofs.Sums.{abs-product}
use Rattle.affine_rows.proofs.wide.product.Goals as goal

pub returns-clause-small : goal.returns-clause-small
returns-clause-small c =
    let g1 : FitsSigned w64 c.args.a = c.ranges.a in
    let g2 : FitsSigned w64 c.args.b = c.ranges.b in
    let f1 : FitsSigned w128 c.args.a = omega (arith, ints) in
    let f2 : FitsSigned w128 c.args.b = omega (arith, ints) in
    let p = abs-product c.args.a c.args.b (2 ^ 63) (2 ^ 63) (omega (arith, ints)) (omega (arith, ints)) in
    let q = abs-product c.args.a c.args.b (unsigned_abs c.args.a) (2 ^ 63) (omega arith) (omega (arith, ints)) in
    let f3 : FitsSigned w128 (c.args.a *ℤ c.args.b) = fits_signed_from_abs w128 _ (omega (arith, p)) in
    let e1 = simp to_z-of_z at c.from.ensures in
    let e2 = simp to_z-of_z at c.from-2.ensures in
    rw (e1, e2) (simp to_z-of_z (omega (arith, q)))
