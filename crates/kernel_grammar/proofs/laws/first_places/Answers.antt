use Rattle.kernel_grammar.proofs.SampleTrees as trees
use Rattle.kernel_grammar.proofs.laws.first_places.Goals as goal

pub returns-clause-bare : goal.returns-clause-bare
returns-clause-bare c = trees.bare

pub returns-clause-listed : goal.returns-clause-listed
returns-clause-listed c = trees.listed

pub returns-clause-two : goal.returns-clause-two
returns-clause-two c = trees.two

pub returns-clause-value : goal.returns-clause-value
returns-clause-value c = trees.value
