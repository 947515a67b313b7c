use Rattle.kernel_syntax.proofs.Leads.{ends_on, sign_on, no_sign, no_last, passes, a_spelling}
use Rattle.kernel_syntax.proofs.InsnEnds.{dep_opens, starred, unstarred, dep_ids, starred_text}
use Rattle.std.proofs.Common.{false, []}
use Rattle.kernel_syntax.proofs.LineSteps.{dep_starred, dep_plain}
use Rattle.kernel_syntax.proofs.insn.dep.Goals as goal

pub returns-in_ok-ids-in-Some-clause-read : goal.returns-in_ok-ids-in-Some-clause-read
returns-in_ok-ids-in-Some-clause-read c = dep_starred _ _ _ _ _ _ _ c.requires c.in_ok-at.ensures.read.0 c.in_ok-at.ensures.read.1 c.in-Some.ensures.0 c.in-Some.ensures.1 c.in_ok-ids-in-Some.ensures.read

pub returns-in_ok-ids-in-None-clause-read : goal.returns-in_ok-ids-in-None-clause-read
returns-in_ok-ids-in-None-clause-read c = dep_plain _ _ _ _ _ _ c.requires c.in_ok-at.ensures.read.0 c.in_ok-at.ensures.read.1 c.in_ok-ids-in-None.ensures.read

pub returns-in_err-at-clause-stops : goal.returns-in_err-at-clause-stops
returns-in_err-at-clause-stops c = passes _ _ _ c.from_residual.ensures.1 (no_sign _ (dep_opens _ _ c.requires) (a_spelling starred_text (false, [])) c.in_err-at.ensures.stops)

pub returns-in_err-ids-in-Some-clause-stops : goal.returns-in_err-ids-in-Some-clause-stops
returns-in_err-ids-in-Some-clause-stops c = passes _ _ _ c.from_residual-in_err-ids-in-Some.ensures.1 (no_last _ (sign_on (starred (sign_on (dep_opens _ _ c.requires) c.in_ok-at.ensures.read) c.in-Some.ensures.1) c.in-Some.ensures) dep_ids c.in_err-ids-in-Some.ensures.stops)

pub returns-in_err-ids-in-None-clause-stops : goal.returns-in_err-ids-in-None-clause-stops
returns-in_err-ids-in-None-clause-stops c = passes _ _ _ c.from_residual-in_err-ids-in-None.ensures.1 (no_last _ (unstarred (sign_on (dep_opens _ _ c.requires) c.in_ok-at.ensures.read) c.in-None.ensures) dep_ids c.in_err-ids-in-None.ensures.stops)

pub returns-in_ok-ids-in-Some-clause-ends : goal.returns-in_ok-ids-in-Some-clause-ends
returns-in_ok-ids-in-Some-clause-ends c = ends_on (sign_on (starred (sign_on (dep_opens _ _ c.requires) c.in_ok-at.ensures.read) c.in-Some.ensures.1) c.in-Some.ensures) c.in_ok-ids-in-Some.ensures.read.on c.in_ok-ids-in-Some.ensures.ends dep_ids

pub returns-in_ok-ids-in-None-clause-ends : goal.returns-in_ok-ids-in-None-clause-ends
returns-in_ok-ids-in-None-clause-ends c = ends_on (unstarred (sign_on (dep_opens _ _ c.requires) c.in_ok-at.ensures.read) c.in-None.ensures) c.in_ok-ids-in-None.ensures.read.on c.in_ok-ids-in-None.ensures.ends dep_ids
