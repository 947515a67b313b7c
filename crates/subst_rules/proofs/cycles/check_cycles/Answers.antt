use Rattle.std.proofs.Common.{Bool, subst}
use Rattle.subst_rules.specs.Walks.{ReachesItself}
use Rattle.subst_rules.proofs.Walking.{no_cycle, first_cycle}
use Rattle.subst_rules.proofs.cycles.check_cycles.Goals as goal

pub returns-then-cyclic : goal.returns-then-cyclic
returns-then-cyclic c = (
  c.loop-rule.rule,
  first_cycle c.args.kernel.now c.args.bodies.now c.loop-rule.rule c.requires c.loop-rule.invariant
      (subst (λ (b : Bool). ReachesItself c.args.bodies.now c.loop-rule.rule b) c.if-cyclic.true c.in_ok-cyclic.ensures),
  c.in_ok-rule_cycle.ensures,
)

pub returns : goal.returns
returns c = no_cycle c.args.kernel.now c.args.bodies.now c.loop-rule.rule c.requires c.loop-rule-test.false c.loop-rule.invariant
