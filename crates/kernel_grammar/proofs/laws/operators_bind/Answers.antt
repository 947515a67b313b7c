use Rattle.kernel_grammar.proofs.SampleTrees as trees
use Rattle.kernel_grammar.proofs.laws.operators_bind.Goals as goal

pub returns-clause-shifts : goal.returns-clause-shifts
returns-clause-shifts c = trees.shifts

pub returns-clause-sums : goal.returns-clause-sums
returns-clause-sums c = trees.sums

pub returns-clause-comparisons : goal.returns-clause-comparisons
returns-clause-comparisons c = trees.comparisons

pub returns-clause-products : goal.returns-clause-products
returns-clause-products c = trees.products
