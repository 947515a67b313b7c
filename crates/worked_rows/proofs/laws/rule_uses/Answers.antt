use Rattle.worked_rows.proofs.RuleUses as rows
use Rattle.worked_rows.proofs.laws.rule_uses.Goals as goal

pub returns : goal.returns
returns c = rows.uses_are_bodies
