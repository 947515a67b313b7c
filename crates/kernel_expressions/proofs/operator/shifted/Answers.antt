use Rattle.std.proofs.Common.{arith, rules}
use Rattle.kernel_expressions.proofs.Moving.{ends_to}
use Rattle.kernel_expressions.proofs.Places.{ended_moves, shift_behind, stepped}
use Rattle.kernel_expressions.proofs.Refusing.{behind_begun, shift_begun}
use Rattle.kernel_expressions.proofs.Agreeing.{passed_on}
use Rattle.kernel_expressions.proofs.Going.{shift_goes, shift_halts, shift_stopped, from_stopped, halts_stopped}
use Rattle.kernel_expressions.proofs.operator.shifted.Goals as goal
use Rattle.kernel_expressions.proofs.operator.shifted.Goals.{then-made-lt8-via-then-made-lt8, then-made-lt8-via-else-made-lt8+then-wanted_level-gt8}

pub returns-then-made-lt8-clause-moves : goal.returns-then-made-lt8-clause-moves
returns-then-made-lt8-clause-moves c = ended_moves _ c.args.part.now c.end_operators.new.self c.end.new.part _ 8 _ _ _ _ c.end.ensures.moves c.in_ok-made.ensures (omega arith)

pub returns-clause-moves : goal.returns-clause-moves
returns-clause-moves c = λ from within h. shift_behind _ _ _ _ _ _ _ _ _ _ _ _ _ _ c.in_ok-step.ensures.frames (stepped _ _ _ _ c.in_ok-step.ensures.steps c.shift_step.ensures) c.requires c.in_ok-digits.ensures.read.0 c.in_ok-digits.ensures.read.1
    c.number_of.ensures c.if-made-lt8.false (omega (arith, c.wanted_level.ensures, c.if-wanted_level-gt8.false))
    (ends_to _ _ _ _ _ 8 _ _ _ _ (omega arith) c.in_ok-made.ensures h)

pub returns-then-made-lt8-clause-begun : goal.returns-then-made-lt8-clause-begun
returns-then-made-lt8-clause-begun c = behind_begun _ _ c.args.part.now _ _ _ c.end.ensures.begun

pub returns-in_err-digits-clause-begun : goal.returns-in_err-digits-clause-begun
returns-in_err-digits-clause-begun c = shift_begun _ _ c.args.part.now _ _ _ _ _ c.in_err-digits.field-0.0 _ (search rules) c.in_err-digits.ensures.stops c.requires c.in_ok-made.ensures
    c.if-made-lt8.false (omega (arith, c.wanted_level.ensures, c.if-wanted_level-gt8.false))

pub returns-then-made-lt8-clause-goes : goal.returns-then-made-lt8-clause-goes
returns-then-made-lt8-clause-goes c = from_stopped _ _ _ _ _ _ _ c.end.new.part _
    (shift_stopped _ _ _ _ _ c.args.is_left _ c.end_operators.new.self.frames _ _ c.requires c.in_ok-made.ensures (λ tight loose. elim c.then-made-lt8.branch [
      | then-made-lt8-via-then-made-lt8 w ↦ omega (arith, tight, w.if-made-lt8.true)
      | then-made-lt8-via-else-made-lt8+then-wanted_level-gt8 w ↦ omega (arith, loose, w.wanted_level.ensures, w.if-wanted_level-gt8.true)
    ])) c.end.ensures.goes

pub returns-then-made-lt8-clause-none : goal.returns-then-made-lt8-clause-none
returns-then-made-lt8-clause-none c = halts_stopped _ _ _ _ _ _ c.end_operators.new.self.frames _
    (shift_stopped _ _ _ _ _ c.args.is_left _ c.end_operators.new.self.frames _ _ c.requires c.in_ok-made.ensures (λ tight loose. elim c.then-made-lt8.branch [
      | then-made-lt8-via-then-made-lt8 w ↦ omega (arith, tight, w.if-made-lt8.true)
      | then-made-lt8-via-else-made-lt8+then-wanted_level-gt8 w ↦ omega (arith, loose, w.wanted_level.ensures, w.if-wanted_level-gt8.true)
    ])) c.end.ensures.none

pub returns-in_err-digits-clause-none : goal.returns-in_err-digits-clause-none
returns-in_err-digits-clause-none c = passed_on _ _ c.from_residual-in_err-digits.ensures.1 c.in_err-digits.ensures.stops (λ last h. shift_halts _ _ _ _ _ _ c.args.is_left _ _ _ _ c.requires c.in_ok-made.ensures
    (omega (arith, c.wanted_level.ensures, c.if-wanted_level-gt8.false)) h)

pub returns-clause-goes : goal.returns-clause-goes
returns-clause-goes c = λ some within. shift_goes _ _ _ _ _ _ c.args.is_left _ _ _ _ _ c.requires c.in_ok-made.ensures
    (omega (arith, c.wanted_level.ensures, c.if-wanted_level-gt8.false)) c.in_ok-step.ensures.frames c.in_ok-digits.ensures.read.0
