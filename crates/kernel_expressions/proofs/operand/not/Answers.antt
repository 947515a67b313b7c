use Rattle.kernel_grammar.specs.declared.step.Prefix.TheVariants.{Not}
use Rattle.kernel_expressions.proofs.Moving.{opened_moves_at}
use Rattle.kernel_expressions.proofs.Heads.{part_prefix}
use Rattle.kernel_expressions.proofs.Operands.{not_open, opens_at}
use Rattle.kernel_expressions.proofs.operand.not.Goals as goal

pub returns-clause-moves : goal.returns-clause-moves
returns-clause-moves c = opened_moves_at _ _ _ _ _ _ _ _ _ c.wanted_level.ensures c.if-wanted_level-gt3.false c.opened.ensures.opens (part_prefix _ _ _ Not c.requires) tt

pub returns-clause-goes : goal.returns-clause-goes
returns-clause-goes c = opens_at _ _ _ c.args.part.now c.opened.new.part _ _ _ _ c.opened.ensures.opens (not_open)
