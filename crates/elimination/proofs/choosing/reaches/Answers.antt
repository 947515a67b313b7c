use Rattle.std.proofs.Common.{rules, arith, FitsSigned}
use Rattle.std.specs.Int.{w128}
use Rattle.std.proofs.lemmas.Int.{ints, to_z-of_z}
use Rattle.elimination.proofs.Picks.{reach_some}
use Rattle.elimination.proofs.choosing.reaches.Goals as goal

pub returns-in-Some : goal.returns-in-Some
returns-in-Some c =
    let fits : FitsSigned w128 c.whole_up_to.result = search rules in
    let whole_fits : FitsSigned w128 c.args.whole = c.ranges.whole in
    let same = reach_some c.args.upper c.in-Some.upper c.args.over c.whole_up_to.result c.args.whole c.in-Some.is c.whole_up_to.ensures.low c.whole_up_to.ensures.high in
    simp to_z-of_z ((λ h. same.0 (grind (arith, ints, h))), (λ h. let le = same.1 h in grind (arith, ints, le)))
