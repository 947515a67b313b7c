use Rattle.kernel_grammar.specs.Lexicals.{mark}
use Rattle.kernel_expressions.proofs.ListSteps.{inames_read}
use Rattle.kernel_expressions.proofs.Settling.{handed_on, whole, leads_ends, same_leads, same_stops, closed, none_closed, not_closed}
use Rattle.kernel_expressions.proofs.ListEnds.{parens_read, inames_same}
use Rattle.std.proofs.Common.{arith}
use Rattle.kernel_expressions.proofs.Agreeing.{passed_on}
use Rattle.kernel_expressions.proofs.Inames.{parens_long}
use Rattle.kernel_expressions.proofs.operand.inames.Goals as goal

pub returns-clause-read : goal.returns-clause-read
returns-clause-read c = inames_read _ _ _ _ _ _ c.in_ok-names.ensures.read c.in_ok-sign.ensures.read.0 c.in_ok-sign.ensures.read.1

pub returns-clause-ends : goal.returns-clause-ends
returns-clause-ends c = leads_ends (same_leads inames_same (closed (mark ",") (whole (parens_read c.in_ok-names.ensures.read) c.in_ok-names.ensures.ends) (λ rest. tt) c.in_ok-sign.ensures.read.0 c.in_ok-sign.ensures.read.1))

pub returns-in_err-names-clause-stops : goal.returns-in_err-names-clause-stops
returns-in_err-names-clause-stops c = λ within. handed_on _ _ _ _ c.from_residual.ensures.1 (c.in_err-names.ensures.stops within) (λ last h. same_stops inames_same (none_closed (mark ",") h (λ rest. tt)))

pub returns-in_err-sign-clause-stops : goal.returns-in_err-sign-clause-stops
returns-in_err-sign-clause-stops c = λ within. handed_on _ _ _ _ c.from_residual-in_err-sign.ensures.1 c.in_err-sign.ensures.stops
    (λ last h. same_stops inames_same (not_closed (mark ",") (whole (parens_read c.in_ok-names.ensures.read) c.in_ok-names.ensures.ends) (λ rest. tt) h))

pub returns-in_err-sign-clause-beyond : goal.returns-in_err-sign-clause-beyond
returns-in_err-sign-clause-beyond c = λ b. passed_on _ _ c.from_residual-in_err-sign.ensures.1 c.in_err-sign.ensures.stops (λ last h. omega (arith, h.same, parens_long _ _ _ _ _ c.in_ok-names.ensures.read))
