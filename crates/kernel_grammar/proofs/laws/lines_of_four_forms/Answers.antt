use Rattle.kernel_grammar.proofs.SampleTrees as trees
use Rattle.kernel_grammar.proofs.laws.lines_of_four_forms.Goals as goal

pub returns-clause-assume : goal.returns-clause-assume
returns-clause-assume c = trees.lists

pub returns-clause-temp : goal.returns-clause-temp
returns-clause-temp c = trees.temps

pub returns-clause-rule : goal.returns-clause-rule
returns-clause-rule c = trees.rules

pub returns-clause-insn : goal.returns-clause-insn
returns-clause-insn c = trees.options
