use Rattle.kernel_syntax.proofs.Leads.{ends_on, sign_on, no_sign, no_last, passes, same_rest, some_or}
use Rattle.kernel_syntax.proofs.InsnEnds.{condition_opens}
use Rattle.kernel_syntax.proofs.LineSteps.{condition_read}
use Rattle.kernel_syntax.proofs.insn.condition.Goals as goal

pub returns-clause-read : goal.returns-clause-read
returns-clause-read c = condition_read _ _ _ _ _ _ c.requires c.in_ok-at.ensures.read.0 c.in_ok-at.ensures.read.1 c.in_ok-test.ensures.read

pub returns-in_err-at-clause-stops : goal.returns-in_err-at-clause-stops
returns-in_err-at-clause-stops c = passes _ _ _ c.from_residual.ensures.1 (no_sign _ (condition_opens _ _ c.requires) some_or c.in_err-at.ensures.stops)

pub returns-in_err-test-clause-stops : goal.returns-in_err-test-clause-stops
returns-in_err-test-clause-stops c = let h = (sign_on (condition_opens _ _ c.requires) c.in_ok-at.ensures.read) in passes _ _ _ c.from_residual-in_err-test.ensures.1 (no_last _ h (same_rest _) (c.in_err-test.ensures.stops h.within))

pub returns-clause-ends : goal.returns-clause-ends
returns-clause-ends c = ends_on (sign_on (condition_opens _ _ c.requires) c.in_ok-at.ensures.read) c.in_ok-test.ensures.read.on c.in_ok-test.ensures.ends (same_rest _)
