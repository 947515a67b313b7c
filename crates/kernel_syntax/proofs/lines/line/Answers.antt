use Rattle.kernel_syntax.proofs.LineEnds.{rule_ends_through, rule_stops_through, insn_ends_through, insn_stops_through}
use Rattle.kernel_syntax.proofs.lines.line.Goals as goal

pub returns-in-Some-behind_rule-clause-ends : goal.returns-in-Some-behind_rule-clause-ends
returns-in-Some-behind_rule-clause-ends c = rule_ends_through _ _ _ c.in-Some-behind_rule.ensures.0 _ c.in-Some-behind_rule.ensures.1 c.in-Some-behind_rule.ensures.2 c.rule.ensures.read c.rule.ensures.ends

pub returns-in-Some-behind_rule-clause-stops : goal.returns-in-Some-behind_rule-clause-stops
returns-in-Some-behind_rule-clause-stops c = rule_stops_through _ _ c.in-Some-behind_rule.ensures.0 _ c.in-Some-behind_rule.ensures.1 c.in-Some-behind_rule.ensures.2 (c.rule.ensures.stops c.requires)

pub returns-in-None-clause-ends : goal.returns-in-None-clause-ends
returns-in-None-clause-ends c = insn_ends_through _ _ _ _ (record { keyless = c.in_default.ensures; ruleless = c.in-None.ensures }) c.insn.ensures.read c.insn.ensures.ends

pub returns-in-None-clause-stops : goal.returns-in-None-clause-stops
returns-in-None-clause-stops c = insn_stops_through _ _ _ (record { keyless = c.in_default.ensures; ruleless = c.in-None.ensures }) c.insn.ensures.stops
