use Rattle.kernel_syntax.proofs.LineEnds.{name_and}
use Rattle.kernel_syntax.proofs.lines.behind_rule.Goals as goal

pub returns-in-Some : goal.returns-in-Some
returns-in-Some c = name_and _ _ _ _ c.in-Some.field-0.free c.in-Some.ensures c.behind_sign.ensures
