use Rattle.std.proofs.Common.{◌≡◌, ◌++◌, drop}
use Rattle.std.specs.Prelude.{flat_map}
use Rattle.untyped_parts.specs.Mentions.{mentions}
use Rattle.kernel_files.proofs.inames.mentions_in.Given as goal

abbrev pub invariant-trees : goal.invariant-trees
invariant-trees l = l.vars.items ++ flat_map mentions (drop l.tree-index l.trees) ≡ flat_map mentions l.trees
