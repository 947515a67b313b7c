use Rattle.std.proofs.Common.{[], ◌∷◌, refl}
use Rattle.kernel_expressions.proofs.Moving.{closes, body_closes}
use Rattle.kernel_expressions.proofs.Agreeing.{passed_on}
use Rattle.kernel_expressions.proofs.Shutting.{body_past, shut_behind, shut_never}
use Rattle.kernel_expressions.proofs.operator.body.Goals as goal

pub returns-clause-moves : goal.returns-clause-moves
returns-clause-moves c = λ least level from within h. closes _ _ _ _ _ _ _ (c.args.step ∷ []) _ _ _ _ _ _ c.in_ok-step.ensures.frames (λ s. c.in_ok-step.ensures.steps) c.in_ok-at.ensures.read.0 c.in_ok-at.ensures.read.1 refl
    (λ made steps t u short part tree tight. body_closes _ level _ made steps t u part tree tight) h

pub returns-in_err-at-clause-none : goal.returns-in_err-at-clause-none
returns-in_err-at-clause-none c = passed_on _ _ c.from_residual.ensures.1 c.in_err-at.ensures.stops (λ last h. shut_never h (λ least t. body_past _ least _ t))

pub returns-clause-goes : goal.returns-clause-goes
returns-clause-goes c = λ least some within. shut_behind c.in_ok-step.ensures.frames c.in_ok-at.ensures.read.0 (body_past _ least _)
