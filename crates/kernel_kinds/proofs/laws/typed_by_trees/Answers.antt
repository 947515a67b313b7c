use Rattle.kernel_kinds.proofs.TypedTrees.{typed_by_trees}
use Rattle.kernel_kinds.proofs.laws.typed_by_trees.Goals as goal

pub returns : goal.returns
returns c = typed_by_trees
