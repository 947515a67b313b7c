use Rattle.kernel_syntax.proofs.Leads.{ends_on, no_last, same_rest, passes}
use Rattle.kernel_syntax.proofs.LineEnds.{assume_opens}
use Rattle.kernel_syntax.proofs.LineSteps.{assume_read}
use Rattle.kernel_syntax.proofs.lines.assume.Goals as goal

pub returns-clause-read : goal.returns-clause-read
returns-clause-read c = assume_read _ _ _ _ _ c.requires c.in_ok-conditions.ensures.read

pub returns-in_err-conditions-clause-stops : goal.returns-in_err-conditions-clause-stops
returns-in_err-conditions-clause-stops c = let h = assume_opens _ _ c.requires in passes _ _ _ c.from_residual.ensures.1 (no_last _ h (same_rest _) (c.in_err-conditions.ensures.stops h.within))

pub returns-clause-ends : goal.returns-clause-ends
returns-clause-ends c = ends_on (assume_opens _ _ c.requires) c.in_ok-conditions.ensures.read.on c.in_ok-conditions.ensures.ends (same_rest _)
