use Rattle.std.proofs.Common.{◌∙◌, ap}
use Rattle.type_infer.specs.Judged.{rule_judged}
use Rattle.type_infer.specs.Tables.{known_by}
use Rattle.type_infer.proofs.tables.rule_kinds.Goals as goal

pub returns-in-None : goal.returns-in-None
returns-in-None c = c.none.ensures ∙ ap (rule_judged (known_by c.args.kernel.now c.args.table.now)) c.in-None.ensures
