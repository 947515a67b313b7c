use Rattle.std.proofs.Common.{arith}
use Rattle.kernel_expressions.proofs.Places.{infix_moves, ended_infix}
use Rattle.std.proofs.Common.{refl}
use Rattle.kernel_expressions.proofs.Going.{infix_goes, infix_stopped, from_stopped, halts_stopped}
use Rattle.kernel_expressions.proofs.operator.infixed.Goals as goal
use Rattle.kernel_expressions.proofs.operator.infixed.Goals.{else-first_level-made-via-then-first_level-made+else-wanted_level-level, else-first_level-made-via-else-first_level-made}

pub returns-then-wanted_level-level-clause-moves : goal.returns-then-wanted_level-level-clause-moves
returns-then-wanted_level-level-clause-moves c = infix_moves _ c.args.part.now c.end_operators.new.self c.opened.new.part _ _ _ _ _ _ _ c.opened.ensures.opens c.first_level.ensures c.in_ok-made.ensures c.requires
    (omega (arith, c.first_level-2.ensures, c.if-first_level-made.true)) (omega (arith, c.wanted_level.ensures, c.level.ensures, c.if-wanted_level-level.true))

pub returns-clause-moves : goal.returns-clause-moves
returns-clause-moves c = ended_infix _ c.args.part.now c.end_operators.new.self c.end.new.part _ _ _ _ _ _ _ c.end.ensures.moves c.first_level.ensures c.in_ok-made.ensures

pub returns-then-wanted_level-level-clause-goes : goal.returns-then-wanted_level-level-clause-goes
returns-then-wanted_level-level-clause-goes c = infix_goes _ _ _ _ _ _ _ c.args.part.now c.end_operators.new.self c.opened.new.part _ _ c.opened.ensures.opens refl c.requires (rw c.first_level.ensures at c.in_ok-made.ensures) (omega (arith, c.wanted_level.ensures, c.level.ensures, c.if-wanted_level-level.true))

pub returns-clause-goes : goal.returns-clause-goes
returns-clause-goes c = from_stopped _ _ _ _ _ _ _ c.end.new.part _
    (infix_stopped _ _ _ _ _ _ _ c.end_operators.new.self.frames _ _ c.requires (rw c.first_level.ensures at c.in_ok-made.ensures) (λ tight loose. elim c.else-first_level-made.branch [
      | else-first_level-made-via-then-first_level-made+else-wanted_level-level w ↦ omega (arith, loose, w.wanted_level.ensures, w.level.ensures, w.if-wanted_level-level.false)
      | else-first_level-made-via-else-first_level-made w ↦ omega (arith, tight, c.first_level-2.ensures, w.if-first_level-made.false)
    ])) c.end.ensures.goes

pub returns-clause-none : goal.returns-clause-none
returns-clause-none c = halts_stopped _ _ _ _ _ _ c.end_operators.new.self.frames _
    (infix_stopped _ _ _ _ _ _ _ c.end_operators.new.self.frames _ _ c.requires (rw c.first_level.ensures at c.in_ok-made.ensures) (λ tight loose. elim c.else-first_level-made.branch [
      | else-first_level-made-via-then-first_level-made+else-wanted_level-level w ↦ omega (arith, loose, w.wanted_level.ensures, w.level.ensures, w.if-wanted_level-level.false)
      | else-first_level-made-via-else-first_level-made w ↦ omega (arith, tight, c.first_level-2.ensures, w.if-first_level-made.false)
    ])) c.end.ensures.none
