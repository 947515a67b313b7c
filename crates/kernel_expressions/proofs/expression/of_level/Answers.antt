use Rattle.std.proofs.Common.{rules, subst}
use Rattle.kernel_expressions.proofs.Moving.{begins}
use Rattle.kernel_expressions.proofs.Refusing.{operand_begun, operator_begun}
use Rattle.kernel_expressions.proofs.expression.of_level.Goals as goal
use Rattle.kernel_expressions.specs.declared.partial.Turn as turn
use Rattle.kernel_expressions.specs.declared.partial.Turn.TheVariants.{Operand, Operator}
use Rattle.kernel_expressions.specs.Texts.{texts, IsFit}
use Rattle.kernel_expressions.specs.Turns.{IsTurn}
use Rattle.kernel_expressions.proofs.Agreeing.{passed_on}
use Rattle.kernel_expressions.proofs.Wholes.{begins_goes, turn_goes, turn_halts, turn_ends}

pub returns-in_err-turn-in-Operand-clause-begun : goal.returns-in_err-turn-in-Operand-clause-begun
returns-in_err-turn-in-Operand-clause-begun c = λ within. operand_begun _ _ _ _ _ _ _ _ c.in_err-turn-in-Operand.field-0.0 _ (search rules) c.requires within c.in-Operand.is c.turns.invariant.0 c.in_err-turn-in-Operand.ensures.begun

pub returns-in_err-turn-in-Operator-clause-begun : goal.returns-in_err-turn-in-Operator-clause-begun
returns-in_err-turn-in-Operator-clause-begun c = λ within. operator_begun _ _ c.turns.part _ _ _ _ c.in_err-turn-in-Operator.field-0.0 _ (search rules) c.requires within c.in-Operator.is c.turns.invariant.0 c.in_err-turn-in-Operator.ensures.begun

pub turns-init : goal.turns-init
turns-init c = (begins _ _ _ _ _ _ c.new-part.ensures.frames c.new-part.ensures.steps, begins_goes _ _ _ _ c.new-part.ensures.frames)

pub turns-preserved-in_ok-turn-in-Operand : goal.turns-preserved-in_ok-turn-in-Operand
turns-preserved-in_ok-turn-in-Operand c = (
  c.in_ok-turn-in-Operand.ensures.moves c.args.at c.requires
      (subst (λ (t : turn.Turn). IsTurn (IsFit (texts c.args.lexemes.now)) (texts c.args.lexemes.now) c.args.least c.args.at c.turns.part.frames c.turns.part.steps.items t) c.in-Operand.is c.turns.invariant.0),
  turn_goes _ _ _ _ _ _ _ (Operand c.in-Operand.at) _ c.turns.invariant.1 c.in-Operand.is c.in_ok-turn-in-Operand.ensures.goes,
)

pub turns-preserved : goal.turns-preserved
turns-preserved c = (
  c.in_ok-turn-in-Operator.ensures.moves c.args.at c.requires
      (subst (λ (t : turn.Turn). IsTurn (IsFit (texts c.args.lexemes.now)) (texts c.args.lexemes.now) c.args.least c.args.at c.turns.part.frames c.turns.part.steps.items t) c.in-Operator.is c.turns.invariant.0),
  turn_goes _ _ _ _ _ _ _ (Operator c.in-Operator.at c.in-Operator.level) _ c.turns.invariant.1 c.in-Operator.is c.in_ok-turn-in-Operator.ensures.goes,
)

pub returns-in_err-turn-in-Operand-clause-none : goal.returns-in_err-turn-in-Operand-clause-none
returns-in_err-turn-in-Operand-clause-none c = λ some. passed_on _ _ c.from_residual.ensures.1 c.in_err-turn-in-Operand.ensures.none (λ last h. turn_halts _ _ _ last _ _ _ (Operand c.in-Operand.at) c.turns.invariant.1 c.in-Operand.is h some c.requires)

pub returns-in_err-turn-in-Operator-clause-none : goal.returns-in_err-turn-in-Operator-clause-none
returns-in_err-turn-in-Operator-clause-none c = λ some. passed_on _ _ c.from_residual-in_err-turn-in-Operator.ensures.1 c.in_err-turn-in-Operator.ensures.none (λ last h. turn_halts _ _ _ last _ _ _ (Operator c.in-Operator.at c.in-Operator.level) c.turns.invariant.1 c.in-Operator.is h some c.requires)

pub returns-in-End-clause-ends : goal.returns-in-End-clause-ends
returns-in-End-clause-ends c = λ some. turn_ends _ _ _ _ _ _ _ c.turns.invariant.1 c.in-End.is some c.requires
