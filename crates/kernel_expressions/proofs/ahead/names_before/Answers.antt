use Rattle.std.proofs.Common.{ap, not, arith, refl, sym, ℕ, List, [], ◌∷◌, ◌++◌, ◌≡◌}
use Rattle.kernel_grammar.specs.Lexicals.{Lexical, sign}
use Rattle.kernel_grammar.specs.Words.{Name}
use Rattle.kernel_grammar.specs.Spelling.{name_text}
use Rattle.kernel_expressions.specs.Signs.{sign_text}
use Rattle.kernel_expressions.proofs.ListSteps.{lone, ended, names_before}
use Rattle.kernel_expressions.proofs.Settling.{handed_on, whole, leads_ends, leads_on, leads_stops, token_leads, closed, none_closed, not_closed, list_none, list_some}
use Rattle.kernel_expressions.proofs.ListEnds.{list_text}
use Rattle.kernel_expressions.proofs.ahead.names_before.Goals as goal

-- a name is no sign
no_sign : {s : List ℕ} (name : Name) (ys zs : List Lexical) → name_text name ++ ys ≡ sign s ∷ zs → ⊥
no_sign name ys zs e = cc

pub returns-in-Some-clause-read : goal.returns-in-Some-clause-read
returns-in-Some-clause-read c = lone _ _ _ _ _ c.in-Some.ensures.0 c.in-Some.ensures.1 (record { tree = []; spelled = refl; means = λ s. sym c.new.ensures })

pub returns-in-Some-clause-ends : goal.returns-in-Some-clause-ends
returns-in-Some-clause-ends c = leads_ends (leads_on (list_none no_sign c.in-Some.ensures.1) (token_leads c.in-Some.ensures.0 c.in-Some.ensures.1))

pub returns-clause-read : goal.returns-clause-read
returns-clause-read c = ended _ _ _ _ _ _ _ c.in_ok-names.ensures.read c.in_ok-sign.ensures.read.0 c.in_ok-sign.ensures.read.1 (λ t h. names_before _ _ _ _ t refl h)

pub returns-clause-ends : goal.returns-clause-ends
returns-clause-ends c = let names = whole (list_text c.in_ok-names.ensures.read) c.in_ok-names.ensures.ends in
    leads_ends (leads_on (list_some (omega (arith, names.on, names.within)) c.in_default.ensures) (closed (sign (sign_text c.args.close)) names (λ rest. ap not c.requires) c.in_ok-sign.ensures.read.0 c.in_ok-sign.ensures.read.1))

pub returns-in_err-names-clause-stops : goal.returns-in_err-names-clause-stops
returns-in_err-names-clause-stops c = λ within. handed_on _ _ _ _ c.from_residual.ensures.1 (c.in_err-names.ensures.stops within)
    (λ last h. leads_stops (list_some within c.in_default.ensures) (none_closed (sign (sign_text c.args.close)) h (λ rest. ap not c.requires)))

pub returns-in_err-sign-clause-stops : goal.returns-in_err-sign-clause-stops
returns-in_err-sign-clause-stops c = λ within. handed_on _ _ _ _ c.from_residual-in_err-sign.ensures.1 c.in_err-sign.ensures.stops
    (λ last h. leads_stops (list_some within c.in_default.ensures) (not_closed (sign (sign_text c.args.close)) (whole (list_text c.in_ok-names.ensures.read) c.in_ok-names.ensures.ends) (λ rest. ap not c.requires) h))
