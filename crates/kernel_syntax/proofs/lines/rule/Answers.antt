use Rattle.kernel_syntax.proofs.Leads.{sign_on, name_on, part_on, ends_on, no_sign, no_name, no_part, no_last, spelled, same_rest, some_or, passes}
use Rattle.kernel_syntax.proofs.LineEnds.{rule_start, some_rule, some_params, some_body}
use Rattle.kernel_syntax.proofs.ChainEnds.{reads_within}
use Rattle.kernel_syntax.proofs.LineSteps.{rule_read}
use Rattle.kernel_syntax.proofs.lines.rule.Goals as goal

pub returns-clause-read : goal.returns-clause-read
returns-clause-read c = rule_read _ _ _ _ _ _ _ _ _ _ _ c.in_ok-name.ensures.read c.in_ok-at.ensures.read.0 c.in_ok-at.ensures.read.1 c.in_ok-params.ensures.read c.in_ok-at-2.ensures.read.0 c.in_ok-at-2.ensures.read.1 c.in_ok-body.ensures.read

pub returns-in_err-name-clause-stops : goal.returns-in_err-name-clause-stops
returns-in_err-name-clause-stops c = λ within. let h = (rule_start _ _ within) in passes _ _ _ c.from_residual.ensures.1 (no_name _ h some_rule c.in_err-name.ensures.stops)

pub returns-in_err-at-clause-stops : goal.returns-in_err-at-clause-stops
returns-in_err-at-clause-stops c = λ within. let h = (name_on (rule_start _ _ within) c.in_ok-name.ensures.read c.in_ok-name.ensures.next) in passes _ _ _ c.from_residual-in_err-at.ensures.1 (no_sign _ h some_params c.in_err-at.ensures.stops)

pub returns-in_err-params-clause-stops : goal.returns-in_err-params-clause-stops
returns-in_err-params-clause-stops c = λ within. let h = (sign_on (name_on (rule_start _ _ within) c.in_ok-name.ensures.read c.in_ok-name.ensures.next) c.in_ok-at.ensures.read) in passes _ _ _ c.from_residual-in_err-params.ensures.1 (no_part _ _ h some_body (λ text rest q b. tt) (c.in_err-params.ensures.stops h.within))

pub returns-in_err-at-2-clause-stops : goal.returns-in_err-at-2-clause-stops
returns-in_err-at-2-clause-stops c = λ within. let h = (part_on (sign_on (name_on (rule_start _ _ within) c.in_ok-name.ensures.read c.in_ok-name.ensures.next) c.in_ok-at.ensures.read) (spelled c.in_ok-params.ensures.read) c.in_ok-params.ensures.ends (λ text rest q b. tt)) in passes _ _ _ c.from_residual-in_err-at-2.ensures.1 (no_sign _ h some_or c.in_err-at-2.ensures.stops)

pub returns-in_err-body-clause-stops : goal.returns-in_err-body-clause-stops
returns-in_err-body-clause-stops c = λ within. let h = (sign_on (part_on (sign_on (name_on (rule_start _ _ within) c.in_ok-name.ensures.read c.in_ok-name.ensures.next) c.in_ok-at.ensures.read) (spelled c.in_ok-params.ensures.read) c.in_ok-params.ensures.ends (λ text rest q b. tt)) c.in_ok-at-2.ensures.read) in passes _ _ _ c.from_residual-in_err-body.ensures.1 (no_last _ h (same_rest _) (c.in_err-body.ensures.stops h.within))

pub returns-clause-ends : goal.returns-clause-ends
returns-clause-ends c = ends_on (sign_on (part_on (sign_on (name_on (rule_start _ _ (reads_within _ _ _ _ c.in_ok-name.ensures.read)) c.in_ok-name.ensures.read c.in_ok-name.ensures.next) c.in_ok-at.ensures.read) (spelled c.in_ok-params.ensures.read) c.in_ok-params.ensures.ends (λ text rest q b. tt)) c.in_ok-at-2.ensures.read) c.in_ok-body.ensures.read.on c.in_ok-body.ensures.ends (same_rest _)
