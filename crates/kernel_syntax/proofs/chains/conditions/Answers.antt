use Rattle.kernel_expressions.proofs.ListSteps.{list_first, list_on}
use Rattle.kernel_syntax.proofs.Leads.{passes}
use Rattle.kernel_syntax.proofs.ChainEnds.{conditions_start, conditions_on, conditions_and, conditions_stop, conditions_end, reads_within}
use Rattle.kernel_syntax.proofs.chains.conditions.Goals as goal

pub conditions-init : goal.conditions-init
conditions-init c = (
  list_first _ _ _ _ _ _ _ _ _ c.in_ok-conditions.ensures c.in_ok-first.ensures.read,
  conditions_on _ _ _ _ _ _ (conditions_start _ _ (reads_within _ _ _ _ c.in_ok-first.ensures.read)) c.in_ok-first.ensures.read c.in_ok-first.ensures.ends,
)

pub conditions-preserved : goal.conditions-preserved
conditions-preserved c = (
  list_on _ _ _ _ _ _ _ _ _ _ _ _ c.in_ok-push.ensures.ok c.conditions.invariant.0 c.in-Some.ensures.0 c.in-Some.ensures.1 c.in_ok-other.ensures.read,
  conditions_on _ _ _ _ _ _ (conditions_and _ _ _ _ c.conditions.invariant.1 c.in-Some.ensures.0 c.in-Some.ensures.1) c.in_ok-other.ensures.read c.in_ok-other.ensures.ends,
)

pub returns-in_err-first-clause-stops : goal.returns-in_err-first-clause-stops
returns-in_err-first-clause-stops c = λ within. passes _ _ _ c.from_residual.ensures.1 (conditions_stop _ _ _ _ (conditions_start _ _ within) c.in_err-first.ensures.stops)

pub returns-in_err-other-clause-stops : goal.returns-in_err-other-clause-stops
returns-in_err-other-clause-stops c = λ within. passes _ _ _ c.from_residual-in_err-other.ensures.1
    (conditions_stop _ _ _ _ (conditions_and _ _ _ _ c.conditions.invariant.1 c.in-Some.ensures.0 c.in-Some.ensures.1) c.in_err-other.ensures.stops)

pub returns-clause-ends : goal.returns-clause-ends
returns-clause-ends c = conditions_end _ _ _ c.conditions.invariant.1 c.in_default.ensures
