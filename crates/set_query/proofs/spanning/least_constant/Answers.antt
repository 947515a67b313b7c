use Rattle.std.proofs.Common.{rules, FitsSigned}
use Rattle.std.proofs.lemmas.Int.{to_z-of_z}
use mir.Syntax.{w64}
use Rattle.set_query.proofs.Hulls.{least_more}
use Rattle.set_query.proofs.spanning.least_constant.Goals as goal

pub loop-row-preserved : goal.loop-row-preserved
loop-row-preserved c =
    let f : FitsSigned w64 c.row-item.result.constant = search rules in
    let made = simp to_z-of_z at c.lesser-least.ensures in
    least_more c.args.rows.now c.loop-row.row-index c.row-item.result c.loop-row.least c.lesser-least.result c.loop-row-test.true c.row-item.is c.loop-row.invariant made
