use Rattle.std.proofs.Common.{rules, ◌≡◌, FitsSigned, pos, ◌*ℤ◌}
use Rattle.std.specs.Int.{w128}
use Rattle.std.proofs.lemmas.Int.{to_z-of_z}
use Rattle.elimination.proofs.Picks.{greatest_picked}
use Rattle.elimination.proofs.choosing.pick_up_to.Goals as goal

pub returns-in-Some : goal.returns-in-Some
returns-in-Some c =
    let fits : FitsSigned w128 c.whole_up_to.result = search rules in
    let number : c.times_over-in-Some.result.number ≡ pos c.args.over *ℤ c.whole_up_to.result = simp to_z-of_z at c.times_over-in-Some.ensures.number in
    greatest_picked c.args.upper c.in-Some.upper c.args.over c.times_over-in-Some.result c.whole_up_to.result c.in-Some.is c.whole_up_to.ensures.low c.whole_up_to.ensures.high number c.times_over-in-Some.ensures.by c.times_over-in-Some.ensures.small
