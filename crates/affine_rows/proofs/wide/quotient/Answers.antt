use Rattle.std.proofs.Common.{arith, rules, FitsSigned}
use Rattle.std.specs.Int.{w64, w128}
use Rattle.std.proofs.lemmas.Int.{ints, to_z-of_z}
use Rattle.affine_rows.proofs.Quotients.{quotient_small}
use Rattle.affine_rows.proofs.wide.quotient.Goals as goal

pub returns-clause-small : goal.returns-clause-small
returns-clause-small c =
    let g2 : FitsSigned w64 c.args.by = c.ranges.by in
    let f2 : FitsSigned w128 c.args.by = omega (arith, ints) in
    let f1 : FitsSigned w128 c.args.a = c.ranges.a in
    let r : FitsSigned w128 c.div_euclid.result = search rules in
    let e2 = simp to_z-of_z at c.from.ensures in
    let v = simp to_z-of_z at (rw e2 at c.div_euclid.ensures) in
    simp to_z-of_z (rw v (quotient_small c.args.a c.args.by c.requires))
