use Rattle.std.proofs.Common.{◌∙◌}
use Rattle.kernel_expressions.proofs.Moving.{operand_there, three_steps}
use Rattle.kernel_expressions.proofs.Heads.{a_number, a_multiple}
use Rattle.kernel_expressions.proofs.Agreeing.{passed_on, some_halts}
use Rattle.kernel_expressions.proofs.Firsts.{number_open, number_ends, multiple_ends}
use Rattle.kernel_expressions.proofs.operand.number.Goals as goal

pub returns-in_default-clause-moves : goal.returns-in_default-clause-moves
returns-in_default-clause-moves c = operand_there _ _ _ _ _ _ _ _ _ c.in_ok-step.ensures.frames c.in_ok-step.ensures.steps
    (a_number _ _ _ _ _ _ c.in_ok-digits.ensures.read.0 c.in_ok-digits.ensures.read.1 c.number_of.ensures)

pub returns-clause-moves : goal.returns-clause-moves
returns-clause-moves c = operand_there _ _ _ _ _ _ _ _ _ (c.in_ok-step-3.ensures.frames ∙ c.in_ok-step-2.ensures.frames ∙ c.in_ok-step.ensures.frames)
    (three_steps _ _ _ _ _ _ _ c.in_ok-step.ensures.steps c.in_ok-step-2.ensures.steps c.in_ok-step-3.ensures.steps)
    (a_multiple _ _ _ _ _ _ _ _ c.in_ok-name_of.ensures c.in_ok-digits.ensures.read.0 c.in_ok-digits.ensures.read.1 c.number_of.ensures c.in-Some.ensures c.in-Some.word.free)

pub returns-in_err-digits-clause-none : goal.returns-in_err-digits-clause-none
returns-in_err-digits-clause-none c = passed_on _ _ c.from_residual.ensures.1 c.in_err-digits.ensures.stops (λ last h least some within. some_halts (number_open) h)

pub returns-in_default-clause-goes : goal.returns-in_default-clause-goes
returns-in_default-clause-goes c = λ least some within. number_ends c.in_ok-step.ensures.frames c.in_ok-digits.ensures.read.0 c.in_default.ensures

pub returns-clause-goes : goal.returns-clause-goes
returns-clause-goes c = λ least some within. multiple_ends (c.in_ok-step-3.ensures.frames ∙ c.in_ok-step-2.ensures.frames ∙ c.in_ok-step.ensures.frames) c.in_ok-digits.ensures.read.0 c.in-Some.word.free c.in-Some.ensures
