use Rattle.subst_rules.proofs.Readiness.{ready_on}
use Rattle.subst_rules.proofs.expansion.expand.Goals as goal

pub returns-clause-ready : goal.returns-clause-ready
returns-clause-ready c = ready_on c.args.kernel.now c.without_cycle.result c.in_ok-check_arities.ensures c.without_cycle.ensures.refused c.without_cycle.ensures.sized
