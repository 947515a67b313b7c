use Rattle.expr_tree.proofs.SampleTrees.{has_sample}
use Rattle.tree_tests.proofs.trees.small_word.Goals as goal

pub value-requires : goal.value-requires
value-requires g c = rw c.in_ok-tree.ensures (has_sample _)
