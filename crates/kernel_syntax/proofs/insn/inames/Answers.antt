use Rattle.kernel_syntax.proofs.Leads.{ends_on, sign_on, no_sign, no_last, passes, a_spelling, some_name, same_rest}
use Rattle.kernel_syntax.proofs.InsnEnds.{inames_open, colons, colons_text}
use Rattle.std.proofs.Common.{[]}
use Rattle.kernel_syntax.proofs.LineSteps.{inames_option}
use Rattle.kernel_syntax.proofs.insn.inames.Goals as goal

pub returns-clause-read : goal.returns-clause-read
returns-clause-read c = inames_option _ _ _ _ _ _ c.requires c.in_ok-at.ensures.read.0 c.in_ok-at.ensures.read.1 c.in_ok-inames.ensures.read

pub returns-in_err-at-clause-stops : goal.returns-in_err-at-clause-stops
returns-in_err-at-clause-stops c = passes _ _ _ c.from_residual.ensures.1 (no_sign _ (inames_open _ _ c.requires) (a_spelling colons_text (some_name, [])) c.in_err-at.ensures.stops)

pub returns-in_err-inames-clause-stops : goal.returns-in_err-inames-clause-stops
returns-in_err-inames-clause-stops c = let h = (colons (sign_on (inames_open _ _ c.requires) c.in_ok-at.ensures.read)) in passes _ _ _ c.from_residual-in_err-inames.ensures.1 (no_last _ h (same_rest _) (c.in_err-inames.ensures.stops h.within))

pub returns-clause-ends : goal.returns-clause-ends
returns-clause-ends c = ends_on (colons (sign_on (inames_open _ _ c.requires) c.in_ok-at.ensures.read)) c.in_ok-inames.ensures.read.on c.in_ok-inames.ensures.ends (same_rest _)
