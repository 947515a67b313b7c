use Rattle.std.proofs.Common.{arith}
use Rattle.std.proofs.lemmas.Grind.{common_steps}
use Rattle.std.proofs.lemmas.List.Edits.{map_over_more}
use Rattle.affine_rows.proofs.terms.Terms.divide.Goals as goal

pub loop-i-preserved : goal.loop-i-preserved
loop-i-preserved c =
    let made = c.divided_term.ensures in
    let e = c.loop-i.invariant in
    grind (arith, common_steps, map_over_more, made, e)
