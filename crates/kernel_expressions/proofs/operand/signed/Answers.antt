use Rattle.std.proofs.Common.{refl, arith}
use Rattle.kernel_grammar.specs.declared.step.Prefix.TheVariants.{Negate, Invert}
use Rattle.kernel_expressions.proofs.Moving.{opened_moves}
use Rattle.kernel_expressions.proofs.Heads.{part_prefix, part_group}
use Rattle.kernel_expressions.specs.Follows.{wanted}
use Rattle.kernel_expressions.specs.declared.sign.Sign.TheVariants.{Minus, Tilde, OpenParenthesis}
use Rattle.kernel_expressions.proofs.Firsts.{prefix_signed, group_signed, signed_never, signed_goes}
use Rattle.kernel_expressions.proofs.operand.signed.Goals as goal

pub returns-in-Minus-clause-moves : goal.returns-in-Minus-clause-moves
returns-in-Minus-clause-moves c = opened_moves _ _ _ _ _ _ _ c.opened.ensures.opens (part_prefix _ _ _ Negate (rw c.in-Minus.is at c.requires)) tt refl

pub returns-in-Tilde-clause-moves : goal.returns-in-Tilde-clause-moves
returns-in-Tilde-clause-moves c = opened_moves _ _ _ _ _ _ _ c.opened-in-Tilde.ensures.opens (part_prefix _ _ _ Invert (rw c.in-Tilde.is at c.requires)) tt refl

pub returns-in-OpenParenthesis-clause-moves : goal.returns-in-OpenParenthesis-clause-moves
returns-in-OpenParenthesis-clause-moves c = opened_moves _ _ _ _ _ _ _ c.opened-in-OpenParenthesis.ensures.opens (part_group _ _ _ (rw c.in-OpenParenthesis.is at c.requires)) tt refl

pub returns-in-Minus-clause-goes : goal.returns-in-Minus-clause-goes
returns-in-Minus-clause-goes c = signed_goes _ _ Minus c.args.part.now c.opened.new.part _ _ _ c.in-Minus.is c.opened.ensures.opens (λ least. prefix_signed (λ e. omega (arith, e)) (λ x left s. wanted s))

pub returns-in-Tilde-clause-goes : goal.returns-in-Tilde-clause-goes
returns-in-Tilde-clause-goes c = signed_goes _ _ Tilde c.args.part.now c.opened-in-Tilde.new.part _ _ _ c.in-Tilde.is c.opened-in-Tilde.ensures.opens (λ least. prefix_signed (λ e. omega (arith, e)) (λ x left s. wanted s))

pub returns-in-OpenParenthesis-clause-goes : goal.returns-in-OpenParenthesis-clause-goes
returns-in-OpenParenthesis-clause-goes c = signed_goes _ _ OpenParenthesis c.args.part.now c.opened-in-OpenParenthesis.new.part _ _ _ c.in-OpenParenthesis.is c.opened-in-OpenParenthesis.ensures.opens (λ least. group_signed (rw c.in-OpenParenthesis.is at c.requires))

pub returns-in_default-clause-none : goal.returns-in_default-clause-none
returns-in_default-clause-none c = λ least. signed_never _ c.args.sign least _ _ c.in_default.not-Minus c.in_default.not-Tilde c.in_default.not-OpenParenthesis
