use Rattle.std.proofs.Common.{◌≡◌, ◌++◌, drop}
use Rattle.std.specs.Prelude.{flat_map}
use Rattle.untyped_parts.specs.Mentions.{bound}
use Rattle.kernel_files.proofs.inames.bound_in.Given as goal

abbrev pub invariant-trees : goal.invariant-trees
invariant-trees l = l.inames.items ++ flat_map bound (drop l.tree-index l.trees) ≡ flat_map bound l.trees
