use Rattle.kernel_grammar.proofs.SampleTrees as trees
use Rattle.kernel_grammar.proofs.laws.a_small_kernel_is_a_file.Goals as goal

pub returns : goal.returns
returns c = trees.doubling
