use Rattle.std.proofs.Common.{length}
use Rattle.kernel_expressions.specs.Texts.{texts, IsFit}
use Rattle.kernel_expressions.specs.Turns.{IsTurn}
use Rattle.kernel_expressions.specs.Tails.{IsText}
use Rattle.kernel_expressions.specs.Follows.{Goes}
use Rattle.kernel_expressions.proofs.Passing.{left}
use Rattle.kernel_expressions.proofs.expression.of_level.Given as goal

abbrev pub invariant-turns : goal.invariant-turns
invariant-turns l = IsTurn (IsFit (texts l.lexemes)) (texts l.lexemes) l.least l.fn.at l.part.frames l.part.steps.items l.turn × Goes (texts l.lexemes) l.least l.fn.at (IsText l.least) l.part.frames l.turn

abbrev pub decreases-turns : goal.decreases-turns
decreases-turns l = left (length l.lexemes) l.turn
