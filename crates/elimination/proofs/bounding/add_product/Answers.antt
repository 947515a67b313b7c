use Rattle.std.proofs.Common.{arith, ◌^◌, ◌≤◌, ◌+ℤ◌, ◌*ℤ◌, FitsSigned, unsigned_abs}
use Rattle.std.specs.Int.{w64, w128}
use Rattle.std.proofs.lemmas.Int.{ints, to_z-of_z, fits_signed_from_abs}
use Rattle.affine_rows.proofs.Sums.{abs-product, abs-sum}
use Rattle.elimination.proofs.bounding.add_product.Goals as goal

pub returns-clause-value : goal.returns-clause-value
returns-clause-value c =
    let p = abs-product c.args.factor c.args.number (2 ^ 62) (2 ^ 56) c.requires.factor c.requires.number in
    let f1 : FitsSigned w128 c.args.sum = c.ranges.sum in
    let f2 : FitsSigned w128 c.args.factor = omega (arith, ints) in
    let f3 : FitsSigned w128 c.args.number = omega (arith, ints) in
    let f4 : FitsSigned w128 (c.args.factor *ℤ c.args.number) = fits_signed_from_abs w128 _ (omega (arith, p)) in
    let f5 : FitsSigned w128 (c.args.sum +ℤ c.args.factor *ℤ c.args.number) = fits_signed_from_abs w128 _ (omega (arith, p, abs-sum c.args.sum (c.args.factor *ℤ c.args.number))) in
    let g1 : FitsSigned w64 c.args.factor = c.ranges.factor in
    let g2 : FitsSigned w64 c.args.number = c.ranges.number in
    let e1 = simp to_z-of_z at c.from.ensures in
    let e2 = simp to_z-of_z at c.from-2.ensures in
    rw (e1, e2) (simp to_z-of_z)

pub returns-clause-small : goal.returns-clause-small
returns-clause-small c =
    let p = abs-product c.args.factor c.args.number (2 ^ 62) (2 ^ 56) c.requires.factor c.requires.number in
    let f1 : FitsSigned w128 c.args.sum = c.ranges.sum in
    let f2 : FitsSigned w128 c.args.factor = omega (arith, ints) in
    let f3 : FitsSigned w128 c.args.number = omega (arith, ints) in
    let f4 : FitsSigned w128 (c.args.factor *ℤ c.args.number) = fits_signed_from_abs w128 _ (omega (arith, p)) in
    let f5 : FitsSigned w128 (c.args.sum +ℤ c.args.factor *ℤ c.args.number) = fits_signed_from_abs w128 _ (omega (arith, p, abs-sum c.args.sum (c.args.factor *ℤ c.args.number))) in
    let g1 : FitsSigned w64 c.args.factor = c.ranges.factor in
    let g2 : FitsSigned w64 c.args.number = c.ranges.number in
    let e1 = simp to_z-of_z at c.from.ensures in
    let e2 = simp to_z-of_z at c.from-2.ensures in
    let size : unsigned_abs (c.args.sum +ℤ c.args.factor *ℤ c.args.number) ≤ 2 ^ 126 = omega (arith, p, abs-sum c.args.sum (c.args.factor *ℤ c.args.number), c.requires.sum) in
    rw (e1, e2) (simp to_z-of_z size)
