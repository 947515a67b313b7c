use Rattle.std.proofs.Common.{◌≡◌, ◌++◌, drop}
use Rattle.std.specs.Prelude.{filter}
use Rattle.expr_tree.specs.Scenes.{is_among}
use Rattle.kernel_files.proofs.inames.marked_among.Given as goal

abbrev pub invariant-inames : goal.invariant-inames
invariant-inames l = l.kept ++ filter (is_among l.marks) (drop l.iname-index l.inames) ≡ filter (is_among l.marks) l.inames
