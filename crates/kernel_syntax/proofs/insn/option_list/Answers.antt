use Rattle.kernel_expressions.proofs.ListSteps.{list_first, list_on}
use Rattle.kernel_syntax.proofs.Leads.{passes}
use Rattle.kernel_syntax.proofs.InsnEnds.{options_start, options_on, options_comma, options_stop, options_end}
use Rattle.kernel_syntax.proofs.ChainEnds.{reads_within}
use Rattle.kernel_syntax.proofs.insn.option_list.Goals as goal

pub options-init : goal.options-init
options-init c = (
  list_first _ _ _ _ _ _ _ _ _ c.in_ok-options.ensures c.in_ok-first.ensures.read,
  options_on _ _ _ _ _ _ (options_start _ _ (reads_within _ _ _ _ c.in_ok-first.ensures.read)) c.in_ok-first.ensures.read c.in_ok-first.ensures.ends,
)

pub options-preserved : goal.options-preserved
options-preserved c = (
  list_on _ _ _ _ _ _ _ _ _ _ _ _ c.in_ok-push.ensures.ok c.options.invariant.0 c.in-Some.ensures.0 c.in-Some.ensures.1 c.in_ok-other.ensures.read,
  options_on _ _ _ _ _ _ (options_comma _ _ _ _ c.options.invariant.1 c.in-Some.ensures.0 c.in-Some.ensures.1) c.in_ok-other.ensures.read c.in_ok-other.ensures.ends,
)

pub returns-in_err-first-clause-stops : goal.returns-in_err-first-clause-stops
returns-in_err-first-clause-stops c = λ within. passes _ _ _ c.from_residual.ensures.1 (options_stop _ _ _ _ (options_start _ _ within) c.in_err-first.ensures.stops)

pub returns-in_err-other-clause-stops : goal.returns-in_err-other-clause-stops
returns-in_err-other-clause-stops c = λ within. passes _ _ _ c.from_residual-in_err-other.ensures.1
    (options_stop _ _ _ _ (options_comma _ _ _ _ c.options.invariant.1 c.in-Some.ensures.0 c.in-Some.ensures.1) c.in_err-other.ensures.stops)

pub returns-clause-ends : goal.returns-clause-ends
returns-clause-ends c = options_end _ _ _ c.options.invariant.1 c.in_default.ensures
