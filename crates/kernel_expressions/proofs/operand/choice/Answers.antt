use Rattle.std.proofs.Common.{refl, rules}
use Rattle.kernel_expressions.proofs.Moving.{opened_moves}
use Rattle.kernel_expressions.proofs.Heads.{part_test}
use Rattle.kernel_expressions.proofs.Refusing.{refused, choice_one}
use Rattle.kernel_expressions.proofs.Agreeing.{passed_on, past_on, past_halts}
use Rattle.kernel_expressions.proofs.Operands.{choice_open, opens_goes}
use Rattle.kernel_expressions.proofs.operand.choice.Goals as goal

pub returns-clause-moves : goal.returns-clause-moves
returns-clause-moves c = opened_moves _ _ _ _ _ _ _ c.opened.ensures.opens (part_test _ _ _ _ c.requires c.in_ok-at.ensures.read.0 c.in_ok-at.ensures.read.1) tt refl

pub returns-in_err-at-clause-begun : goal.returns-in_err-at-clause-begun
returns-in_err-at-clause-begun c = refused _ _ _ _ _ _ _ (search rules) c.in_err-at.ensures.stops (choice_one _ _ c.requires)

pub returns-in_err-at-clause-none : goal.returns-in_err-at-clause-none
returns-in_err-at-clause-none c = passed_on _ _ c.from_residual.ensures.1 c.in_err-at.ensures.stops (λ last h least some within. past_halts (choice_open) h)

pub returns-clause-goes : goal.returns-clause-goes
returns-clause-goes c = opens_goes _ _ c.args.part.now c.opened.new.part _ _ _ _ c.opened.ensures.opens (λ least. past_on (choice_open) c.in_ok-at.ensures.read.0)
