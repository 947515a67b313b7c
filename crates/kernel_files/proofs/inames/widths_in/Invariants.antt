use Rattle.std.proofs.Common.{◌≡◌, ◌++◌, drop}
use Rattle.std.specs.Prelude.{flat_map}
use Rattle.kernel_files.specs.Insns.{widths}
use Rattle.kernel_files.proofs.inames.widths_in.Given as goal

abbrev pub invariant-trees : goal.invariant-trees
invariant-trees l = l.found.items ++ flat_map widths (drop l.tree-index l.trees) ≡ flat_map widths l.trees
