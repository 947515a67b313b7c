use Rattle.std.proofs.Common.{refl, arith}
use Rattle.kernel_expressions.specs.declared.frame.Bracket.TheVariants.{Index, Call}
use Rattle.kernel_expressions.proofs.Moving.{opened_moves, operand_there}
use Rattle.kernel_expressions.proofs.Passing.{name_passes}
use Rattle.kernel_expressions.proofs.Heads.{part_places, a_lone_name, a_bare_call}
use Rattle.kernel_expressions.proofs.Agreeing.{passed_on}
use Rattle.kernel_expressions.proofs.Operands.{opens_goes}
use Rattle.kernel_expressions.proofs.Firsts.{named_never, index_opens, name_ends, call_ends, call_opens}
use Rattle.kernel_expressions.proofs.operand.named.Goals as goal

pub returns-clause-moves : goal.returns-clause-moves
returns-clause-moves c = opened_moves _ _ _ _ _ _ _ c.opened-2.ensures.opens (part_places _ _ Call _ _ _ _ c.in_ok-name.ensures.read c.in-Some-behind_sign.ensures.0 c.in-Some-behind_sign.ensures.1) tt refl

pub returns-in-Some-clause-moves : goal.returns-in-Some-clause-moves
returns-in-Some-clause-moves c = opened_moves _ _ _ _ _ _ _ c.opened.ensures.opens (part_places _ _ Index _ _ _ _ c.in_ok-name.ensures.read c.in-Some.ensures.0 c.in-Some.ensures.1) tt refl

pub returns-in_default-behind_sign-clause-moves : goal.returns-in_default-behind_sign-clause-moves
returns-in_default-behind_sign-clause-moves c = operand_there _ _ _ _ _ _ _ _ _ c.in_ok-step.ensures.frames c.in_ok-step.ensures.steps (a_lone_name _ _ _ _ _ c.in_ok-name.ensures.read)

pub returns-in-Some-behind_sign-2-clause-moves : goal.returns-in-Some-behind_sign-2-clause-moves
returns-in-Some-behind_sign-2-clause-moves c = operand_there _ _ _ _ _ _ _ _ _ c.in_ok-step-2.ensures.frames c.in_ok-step-2.ensures.steps
    (a_bare_call _ _ _ _ _ _ _ c.in_ok-name.ensures.read c.in-Some-behind_sign.ensures.0 c.in-Some-behind_sign.ensures.1 c.in-Some-behind_sign-2.ensures.0 c.in-Some-behind_sign-2.ensures.1)

pub returns-in_default-behind_sign-clause-passes : goal.returns-in_default-behind_sign-clause-passes
returns-in_default-behind_sign-clause-passes c = (omega (arith, name_passes _ _ _ _ _ c.in_ok-name.ensures.read), c.in_ok-name.ensures.read.within)

pub returns-in_err-name-clause-none : goal.returns-in_err-name-clause-none
returns-in_err-name-clause-none c = passed_on _ _ c.from_residual.ensures.1 c.in_err-name.ensures.stops (λ last h least some within. named_never h)

pub returns-in-Some-clause-goes : goal.returns-in-Some-clause-goes
returns-in-Some-clause-goes c = opens_goes _ _ c.args.part.now c.opened.new.part _ _ _ _ c.opened.ensures.opens (λ least. index_opens c.in_ok-name.ensures.next c.in-Some.ensures.0 c.in-Some.ensures.1)

pub returns-in_default-behind_sign-clause-goes : goal.returns-in_default-behind_sign-clause-goes
returns-in_default-behind_sign-clause-goes c = λ least some within. name_ends c.in_ok-step.ensures.frames c.in_ok-name.ensures.next c.in_default.ensures c.in_default-behind_sign.ensures

pub returns-in-Some-behind_sign-2-clause-goes : goal.returns-in-Some-behind_sign-2-clause-goes
returns-in-Some-behind_sign-2-clause-goes c = λ least some within. call_ends some within c.in_ok-step-2.ensures.frames c.in_ok-name.ensures.next c.in-Some-behind_sign.ensures.0 c.in-Some-behind_sign.ensures.1 c.in-Some-behind_sign-2.ensures.0 c.in-Some-behind_sign-2.ensures.1

pub returns-clause-goes : goal.returns-clause-goes
returns-clause-goes c = opens_goes _ _ c.args.part.now c.opened-2.new.part _ _ _ _ c.opened-2.ensures.opens (λ least. call_opens c.in_ok-name.ensures.next c.in-Some-behind_sign.ensures.0 c.in-Some-behind_sign.ensures.1 c.in_default-behind_sign-2.ensures)
