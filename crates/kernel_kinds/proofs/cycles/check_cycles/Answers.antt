use Rattle.std.proofs.Common.{Bool, subst, arith}
use Rattle.subst_rules.specs.Walks.{ReachesItself}
use Rattle.kernel_kinds.proofs.Ways.{first_cycle, no_cycle, none_more}
use Rattle.kernel_kinds.proofs.cycles.check_cycles.Goals as goal

pub returns-then-cyclic : goal.returns-then-cyclic
returns-then-cyclic c = (
  c.loop-rule.rule,
  first_cycle c.args.bodies.now c.loop-rule.rule c.loop-rule.invariant
      (subst (λ (b : Bool). ReachesItself c.args.bodies.now c.loop-rule.rule b) c.if-cyclic.true c.in_ok-cyclic.ensures),
  c.in_ok-rule_cycle.ensures,
)

pub loop-rule-preserved : goal.loop-rule-preserved
loop-rule-preserved c = none_more c.args.bodies.now c.loop-rule.rule c.loop-rule.invariant
    (subst (λ (b : Bool). ReachesItself c.args.bodies.now c.loop-rule.rule b) c.if-cyclic.false c.in_ok-cyclic.ensures) _ (omega arith)

pub returns : goal.returns
returns c = no_cycle c.args.bodies.now c.loop-rule.rule c.loop-rule-test.false c.loop-rule.invariant
