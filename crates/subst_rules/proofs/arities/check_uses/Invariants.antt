use Rattle.std.proofs.Common.{◌≡◌, drop}
use Rattle.kernel_limits.specs.Asked.{first_in}
use Rattle.subst_rules.specs.Refused.{use_refusal}
use Rattle.subst_rules.proofs.arities.check_uses.Given as goal

abbrev pub invariant-loop-used : goal.invariant-loop-used
invariant-loop-used l = first_in (use_refusal l.rules l.line) (drop l.used-index l.uses) ≡ first_in (use_refusal l.rules l.line) l.uses
