use Rattle.std.proofs.Common.{rules, ◌≡◌, FitsSigned, pos, ◌*ℤ◌}
use Rattle.std.specs.Prelude.{◌↔◌, IsTrue}
use Rattle.std.specs.Int.{w128}
use Rattle.std.proofs.lemmas.Int.{to_z-of_z}
use Rattle.elimination.specs.declared.bounding.Side.TheVariants.{Above}
use Rattle.elimination.specs.Fractions.{RespectsAny}
use Rattle.elimination.proofs.Tightening.{not_so}
use Rattle.elimination.proofs.Picks.{bound_picked, least_picked}
use Rattle.elimination.proofs.choosing.pick_from.Goals as goal

pub returns-then-not-reaches : goal.returns-then-not-reaches
returns-then-not-reaches c =
    let fits : FitsSigned w128 c.whole_from-least.result = search rules in
    let reach : IsTrue c.reaches.result ↔ RespectsAny Above c.args.upper 1 (pos c.args.over *ℤ c.whole_from-least.result) = simp to_z-of_z at c.reaches.ensures in
    bound_picked c.args.lower c.args.upper c.args.over c.reduced.result c.whole_from-least.result c.requires.lower c.requires.positive c.requires.some c.whole_from-least.ensures.low c.whole_from-least.ensures.high
    (not_so c.reaches.result (RespectsAny Above c.args.upper 1 (pos c.args.over *ℤ c.whole_from-least.result)) reach c.if-not-reaches.true) c.reduced.ensures.same c.reduced.ensures.reduced c.reduced.ensures.bound

pub returns : goal.returns
returns c =
    let fits : FitsSigned w128 c.whole_from-least.result = search rules in
    let reach : IsTrue c.reaches.result ↔ RespectsAny Above c.args.upper 1 (pos c.args.over *ℤ c.whole_from-least.result) = simp to_z-of_z at c.reaches.ensures in
    let number : c.times_over.result.number ≡ pos c.args.over *ℤ c.whole_from-least.result = simp to_z-of_z at c.times_over.ensures.number in
    least_picked c.args.lower c.args.upper c.args.over c.times_over.result c.whole_from-least.result c.whole_from-least.ensures.low c.whole_from-least.ensures.high (reach.0 c.if-not-reaches.false) number c.times_over.ensures.by c.times_over.ensures.small
