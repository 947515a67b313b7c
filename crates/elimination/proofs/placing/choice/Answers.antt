use Rattle.std.proofs.Common.{rules, arith, ◌≡◌, ◌<◌, FitsSigned, unsigned_abs}
use Rattle.std.specs.Int.{w64}
use Rattle.std.proofs.lemmas.Int.{ints, to_z-of_z}
use Rattle.elimination.proofs.Choices.{choice_from, has_between}
use Rattle.elimination.proofs.placing.choice.Goals as goal

pub pick-requires-clause-some : goal.pick-requires-clause-some
pick-requires-clause-some c =
    has_between c.args.rows.now c.args.var c.args.point.now c.tightest-lower.result c.tightest-upper.result (record { below = c.tightest-lower.ensures.respects; above = c.tightest-upper.ensures.respects }) c.requires.free c.requires.some

pub returns : goal.returns
returns c =
    let fits : FitsSigned w64 c.args.point.now.over = search rules in
    let over : c.unsigned_abs.result ≡ unsigned_abs c.args.point.now.over = simp to_z-of_z at c.unsigned_abs.ensures.value in
    let positive : 0 < c.unsigned_abs.result = omega (arith, ints, over, c.requires.positive) in
    choice_from c.args.rows.now c.args.var c.args.point.now c.unsigned_abs.result c.tightest-lower.result c.tightest-upper.result c.pick.result over positive (record { below = c.tightest-lower.ensures.respects; above = c.tightest-upper.ensures.respects }) c.requires.free c.requires.some c.pick.ensures
