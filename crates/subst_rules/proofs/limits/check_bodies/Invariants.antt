use Rattle.std.proofs.Common.{◌≡◌, drop}
use Rattle.kernel_limits.specs.Asked.{first_in}
use Rattle.subst_rules.specs.Refused.{body_refusal_by}
use Rattle.subst_rules.proofs.limits.check_bodies.Given as goal

abbrev pub invariant-loop-rule : goal.invariant-loop-rule
invariant-loop-rule l = first_in (body_refusal_by l.table) (drop l.rule-index l.rules) ≡ first_in (body_refusal_by l.table) l.rules
