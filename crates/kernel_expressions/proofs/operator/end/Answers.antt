use Rattle.std.proofs.Common.{arith}
use Rattle.kernel_expressions.proofs.Moving.{ends_to}
use Rattle.kernel_expressions.proofs.Places.{closed_level, end_moves, whole_read}
use Rattle.kernel_expressions.proofs.Going.{end_goes, end_halts, end_left}
use Rattle.kernel_expressions.proofs.operator.end.Goals as goal

pub close-requires : goal.close-requires
close-requires c = closed_level c.args.part.now.frames c.args.part.now.steps.items c.args.level _ _ _ _ _ c.in_ok-end_operators.ensures c.in-Some.ensures

pub returns-in-Some-clause-moves : goal.returns-in-Some-clause-moves
returns-in-Some-clause-moves c = end_moves _ c.args.part.now (record { frames = c.pop.new.self; steps = c.end_operators.new.self.steps }) c.close.new.part _ _ _ _ _ _ c.close.ensures.moves c.in_ok-end_operators.ensures c.in-Some.ensures

pub returns-in-None-clause-moves : goal.returns-in-None-clause-moves
returns-in-None-clause-moves c = λ least from within h. whole_read _ _ _ _ _ _ _ _ c.in-None.ensures.0 (ends_to _ _ _ _ _ 1 _ _ _ _ (omega arith) c.in_ok-end_operators.ensures h)

pub returns-in-Some-clause-goes : goal.returns-in-Some-clause-goes
returns-in-Some-clause-goes c = end_goes _ c.args.part.now (record { frames = c.pop.new.self; steps = c.end_operators.new.self.steps }) c.close.new.part _ _ _ _ _ _ _ c.close.ensures.goes c.in_ok-end_operators.ensures c.in-Some.ensures

pub returns-in-Some-clause-none : goal.returns-in-Some-clause-none
returns-in-Some-clause-none c = end_halts _ c.args.part.now (record { frames = c.pop.new.self; steps = c.end_operators.new.self.steps }) _ _ _ _ _ _ _ c.close.ensures.none c.in_ok-end_operators.ensures c.in-Some.ensures

pub returns-in-None-clause-goes : goal.returns-in-None-clause-goes
returns-in-None-clause-goes c = λ least some within. end_left _ least _ _ _ _ _ _ _ c.in_ok-end_operators.ensures c.in-None.ensures.0
