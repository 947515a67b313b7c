use Rattle.std.proofs.Common.{◌≡◌, ◌++◌, take}
use Rattle.kernel_edits.proofs.lists.add_all.Given as goal

abbrev pub invariant-loop-iname : goal.invariant-loop-iname
invariant-loop-iname l = l.made ≡ l.initial.made ++ take l.iname-index l.put
