use Rattle.std.proofs.Common.{refl, rules}
use Rattle.kernel_expressions.proofs.Moving.{opened_moves}
use Rattle.kernel_expressions.proofs.Heads.{part_cast}
use Rattle.kernel_expressions.proofs.Refusing.{refused, cast_one, cast_two, cast_three}
use Rattle.kernel_expressions.proofs.Agreeing.{passed_on, past_on, some_on, past_halts, some_halts}
use Rattle.kernel_expressions.proofs.Operands.{cast_open, body_on, opens_goes}
use Rattle.kernel_expressions.proofs.operand.cast.Goals as goal

pub returns-clause-moves : goal.returns-clause-moves
returns-clause-moves c = opened_moves _ _ _ _ _ _ _ c.opened.ensures.opens (part_cast _ _ _ _ _ _ _ c.requires c.in_ok-at.ensures.read.0 c.in_ok-at.ensures.read.1 c.in_ok-kind.ensures.read.0 c.in_ok-kind.ensures.read.1 c.in_ok-at-2.ensures.read.0 c.in_ok-at-2.ensures.read.1) tt refl

pub returns-in_err-at-clause-begun : goal.returns-in_err-at-clause-begun
returns-in_err-at-clause-begun c = refused _ _ _ _ _ _ _ (search rules) c.in_err-at.ensures.stops (cast_one _ _ c.requires)

pub returns-in_err-kind-clause-begun : goal.returns-in_err-kind-clause-begun
returns-in_err-kind-clause-begun c = refused _ _ _ _ _ _ _ (search rules) c.in_err-kind.ensures.stops (cast_two _ _ _ c.requires c.in_ok-at.ensures.read.0 c.in_ok-at.ensures.read.1)

pub returns-in_err-at-2-clause-begun : goal.returns-in_err-at-2-clause-begun
returns-in_err-at-2-clause-begun c = refused _ _ _ _ _ _ _ (search rules) c.in_err-at-2.ensures.stops
    (cast_three _ _ _ _ _ c.requires c.in_ok-at.ensures.read.0 c.in_ok-at.ensures.read.1 c.in_ok-kind.ensures.read.0 c.in_ok-kind.ensures.read.1)

pub returns-in_err-at-clause-none : goal.returns-in_err-at-clause-none
returns-in_err-at-clause-none c = passed_on _ _ c.from_residual.ensures.1 c.in_err-at.ensures.stops (λ last h least some within. past_halts (cast_open) h)

pub returns-in_err-kind-clause-none : goal.returns-in_err-kind-clause-none
returns-in_err-kind-clause-none c = passed_on _ _ c.from_residual-in_err-kind.ensures.1 c.in_err-kind.ensures.stops (λ last h least some within. some_halts
    (past_on (cast_open) c.in_ok-at.ensures.read.0) h)

pub returns-in_err-at-2-clause-none : goal.returns-in_err-at-2-clause-none
returns-in_err-at-2-clause-none c = passed_on _ _ c.from_residual-in_err-at-2.ensures.1 c.in_err-at-2.ensures.stops (λ last h least some within. past_halts
    (some_on (past_on (cast_open) c.in_ok-at.ensures.read.0) c.in_ok-kind.ensures.read.0) h)

pub returns-clause-goes : goal.returns-clause-goes
returns-clause-goes c = opens_goes _ _ c.args.part.now c.opened.new.part _ _ _ _ c.opened.ensures.opens (λ least. body_on
    (past_on (some_on (past_on (cast_open) c.in_ok-at.ensures.read.0) c.in_ok-kind.ensures.read.0) c.in_ok-at-2.ensures.read.0))
