use Rattle.std.proofs.Common.{refl}
use Rattle.kernel_expressions.proofs.Moving.{goes_on_whole}
use Rattle.kernel_expressions.proofs.Places.{places_more, place_ends}
use Rattle.kernel_expressions.specs.declared.frame.Bracket.TheVariants.{Index, Call}
use Rattle.kernel_expressions.proofs.Agreeing.{passed_on}
use Rattle.kernel_expressions.proofs.Shutting.{place_on, place_ended, place_never}
use Rattle.kernel_expressions.proofs.operator.place.Goals as goal

pub returns-in-Some-clause-moves : goal.returns-in-Some-clause-moves
returns-in-Some-clause-moves c = goes_on_whole _ _ _ _ _ _ _ _ _ c.opened.ensures.opens c.in-Some.ensures.0 c.in-Some.ensures.1 refl refl tt
    (λ l made steps t u short part tree tight. places_more _ _ _ _ _ l made steps t u c.saturating_add-count.ensures short part tree tight)

pub returns-in_ok-step-in-Index-clause-moves : goal.returns-in_ok-step-in-Index-clause-moves
returns-in_ok-step-in-Index-clause-moves c = place_ends _ c.args.part.now _ _ _ Index _ _ _ _ _ c.in-Index.is c.saturating_add-count.ensures c.in_ok-step-in-Index.ensures.frames c.in_ok-step-in-Index.ensures.steps c.in_ok-at-in-Index.ensures.read.0 c.in_ok-at-in-Index.ensures.read.1

pub returns-in_ok-step-in-Call-clause-moves : goal.returns-in_ok-step-in-Call-clause-moves
returns-in_ok-step-in-Call-clause-moves c = place_ends _ c.args.part.now _ _ _ Call _ _ _ _ _ c.in-Call.is c.saturating_add-count.ensures c.in_ok-step-in-Call.ensures.frames c.in_ok-step-in-Call.ensures.steps c.in_ok-at-in-Call.ensures.read.0 c.in_ok-at-in-Call.ensures.read.1

pub returns-in-Some-clause-goes : goal.returns-in-Some-clause-goes
returns-in-Some-clause-goes c = place_on _ c.args.part.now c.opened.new.part _ _ _ _ _ _ _ c.opened.ensures.opens c.in-Some.ensures.0 c.in-Some.ensures.1

pub returns-in_ok-step-in-Index-clause-goes : goal.returns-in_ok-step-in-Index-clause-goes
returns-in_ok-step-in-Index-clause-goes c = λ least some within. place_ended _ _ _ Index _ _ _ least _ _ c.in-Index.is c.in_ok-step-in-Index.ensures.frames c.in_ok-at-in-Index.ensures.read.0 c.in_default.ensures

pub returns-in_err-at-in-Index-clause-none : goal.returns-in_err-at-in-Index-clause-none
returns-in_err-at-in-Index-clause-none c = passed_on _ _ c.from_residual.ensures.1 c.in_err-at-in-Index.ensures.stops (λ last h. place_never _ c.args.part.now _ _ Index _ _ _ c.in-Index.is c.in_default.ensures h)

pub returns-in_ok-step-in-Call-clause-goes : goal.returns-in_ok-step-in-Call-clause-goes
returns-in_ok-step-in-Call-clause-goes c = λ least some within. place_ended _ _ _ Call _ _ _ least _ _ c.in-Call.is c.in_ok-step-in-Call.ensures.frames c.in_ok-at-in-Call.ensures.read.0 c.in_default.ensures

pub returns-in_err-at-in-Call-clause-none : goal.returns-in_err-at-in-Call-clause-none
returns-in_err-at-in-Call-clause-none c = passed_on _ _ c.from_residual-in_err-at-in-Call.ensures.1 c.in_err-at-in-Call.ensures.stops (λ last h. place_never _ c.args.part.now _ _ Call _ _ _ c.in-Call.is c.in_default.ensures h)
