use Rattle.std.proofs.Common.{refl}
use Rattle.kernel_grammar.specs.Lexicals.{mark}
use Rattle.kernel_expressions.proofs.ListSteps.{in_brackets_read}
use Rattle.kernel_expressions.proofs.Settling.{handed_on, whole, leads_ends, leads_on, leads_stops, same_leads, same_stops, token_leads, token_stops, closed, none_closed, not_closed, sample_closed}
use Rattle.kernel_grammar.specs.Trees.{one}
use Rattle.kernel_grammar.specs.Spelling.{sums_text}
use Rattle.kernel_expressions.proofs.Samples.{spelled, a_sum}
use Rattle.kernel_expressions.proofs.ListEnds.{read_text, bracketed_same}
use Rattle.kernel_expressions.proofs.lists.places.Goals as goal

pub returns-clause-read : goal.returns-clause-read
returns-clause-read c = in_brackets_read _ _ _ _ _ _ _ c.in_ok-at.ensures.read.0 c.in_ok-at.ensures.read.1 c.in_ok-sums.ensures.read c.in_ok-sign.ensures.read.0 c.in_ok-sign.ensures.read.1

pub returns-clause-ends : goal.returns-clause-ends
returns-clause-ends c = leads_ends (same_leads bracketed_same (leads_on (token_leads c.in_ok-at.ensures.read.0 c.in_ok-at.ensures.read.1)
    (closed (mark "]") (whole (read_text c.in_ok-sums.ensures.read) c.in_ok-sums.ensures.ends) (λ rest. refl) c.in_ok-sign.ensures.read.0 c.in_ok-sign.ensures.read.1)))

pub returns-in_err-at-clause-stops : goal.returns-in_err-at-clause-stops
returns-in_err-at-clause-stops c = λ within. handed_on _ _ _ _ c.from_residual.ensures.1 c.in_err-at.ensures.stops (λ last h. same_stops bracketed_same (token_stops h within (sample_closed (spelled sums_text (one a_sum)))))

pub returns-in_err-sums-clause-stops : goal.returns-in_err-sums-clause-stops
returns-in_err-sums-clause-stops c = let inner = token_leads c.in_ok-at.ensures.read.0 c.in_ok-at.ensures.read.1 in
    λ within. handed_on _ _ _ _ c.from_residual-in_err-sums.ensures.1 (c.in_err-sums.ensures.stops inner.within) (λ last h. same_stops bracketed_same (leads_stops inner (none_closed (mark "]") h (λ rest. refl))))

pub returns-in_err-sign-clause-stops : goal.returns-in_err-sign-clause-stops
returns-in_err-sign-clause-stops c = λ within. handed_on _ _ _ _ c.from_residual-in_err-sign.ensures.1 c.in_err-sign.ensures.stops
    (λ last h. same_stops bracketed_same (leads_stops (token_leads c.in_ok-at.ensures.read.0 c.in_ok-at.ensures.read.1) (not_closed (mark "]") (whole (read_text c.in_ok-sums.ensures.read) c.in_ok-sums.ensures.ends) (λ rest. refl) h)))
