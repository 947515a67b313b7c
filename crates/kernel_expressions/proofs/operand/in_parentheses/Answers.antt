use Rattle.std.proofs.Common.{refl, arith}
use Rattle.kernel_grammar.specs.Lexicals.{mark}
use Rattle.kernel_grammar.specs.Spelling.{name_text}
use Rattle.kernel_expressions.proofs.ListSteps.{in_parens}
use Rattle.kernel_expressions.proofs.Settling.{handed_on, whole, leads_ends, leads_on, leads_stops, same_leads, same_stops, token_leads, token_stops, closed, none_closed, not_closed, sample_closed}
use Rattle.kernel_expressions.proofs.Samples.{listed_once, a_name}
use Rattle.kernel_expressions.proofs.ListEnds.{list_text, parens_same}
use Rattle.kernel_expressions.proofs.Agreeing.{passed_on}
use Rattle.kernel_expressions.proofs.Inames.{past_name, names_long}
use Rattle.kernel_expressions.proofs.operand.in_parentheses.Goals as goal

pub returns-clause-read : goal.returns-clause-read
returns-clause-read c = in_parens _ _ _ _ _ _ _ c.in_ok-at.ensures.read.0 c.in_ok-at.ensures.read.1 c.in_ok-names.ensures.read c.in_ok-sign.ensures.read.0 c.in_ok-sign.ensures.read.1

pub returns-clause-ends : goal.returns-clause-ends
returns-clause-ends c = leads_ends (same_leads parens_same (leads_on (token_leads c.in_ok-at.ensures.read.0 c.in_ok-at.ensures.read.1)
    (closed (mark ")") (whole (list_text c.in_ok-names.ensures.read) c.in_ok-names.ensures.ends) (λ rest. refl) c.in_ok-sign.ensures.read.0 c.in_ok-sign.ensures.read.1)))

pub returns-in_err-at-clause-stops : goal.returns-in_err-at-clause-stops
returns-in_err-at-clause-stops c = λ within. handed_on _ _ _ _ c.from_residual.ensures.1 c.in_err-at.ensures.stops (λ last h. same_stops parens_same (token_stops h within (sample_closed (listed_once name_text (mark ",") a_name))))

pub returns-in_err-names-clause-stops : goal.returns-in_err-names-clause-stops
returns-in_err-names-clause-stops c = let inner = token_leads c.in_ok-at.ensures.read.0 c.in_ok-at.ensures.read.1 in
    λ within. handed_on _ _ _ _ c.from_residual-in_err-names.ensures.1 (c.in_err-names.ensures.stops inner.within) (λ last h. same_stops parens_same (leads_stops inner (none_closed (mark ")") h (λ rest. refl))))

pub returns-in_err-sign-clause-stops : goal.returns-in_err-sign-clause-stops
returns-in_err-sign-clause-stops c = λ within. handed_on _ _ _ _ c.from_residual-in_err-sign.ensures.1 c.in_err-sign.ensures.stops
    (λ last h. same_stops parens_same (leads_stops (token_leads c.in_ok-at.ensures.read.0 c.in_ok-at.ensures.read.1) (not_closed (mark ")") (whole (list_text c.in_ok-names.ensures.read) c.in_ok-names.ensures.ends) (λ rest. refl) h)))

pub returns-in_err-names-clause-beyond : goal.returns-in_err-names-clause-beyond
returns-in_err-names-clause-beyond c = λ b. passed_on _ _ c.from_residual-in_err-names.ensures.1 (c.in_err-names.ensures.stops (omega (arith, c.in_ok-at.ensures.read.0, c.in_ok-at.ensures.read.1.within))) (λ last h. past_name _ _ _ last c.in_ok-at.ensures.read.0 b h)

pub returns-in_err-sign-clause-beyond : goal.returns-in_err-sign-clause-beyond
returns-in_err-sign-clause-beyond c = λ b. passed_on _ _ c.from_residual-in_err-sign.ensures.1 c.in_err-sign.ensures.stops (λ last h. omega (arith, h.same, c.in_ok-at.ensures.read.0, names_long _ _ _ _ _ c.in_ok-names.ensures.read))
