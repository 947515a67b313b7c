use Rattle.std.proofs.Common.{◌≡◌, drop}
use Rattle.kernel_limits.specs.Asked.{first_in}
use Rattle.subst_rules.specs.Refused.{use_refusal}
use Rattle.kernel_kinds.proofs.arities.check_bodies.Given as goal

abbrev pub invariant-loop-body : goal.invariant-loop-body
invariant-loop-body l = first_in (first_in (use_refusal l.rules 0)) (drop l.body-index l.bodies) ≡ first_in (first_in (use_refusal l.rules 0)) l.bodies
