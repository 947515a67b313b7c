use Rattle.std.proofs.Common.{◌≡◌, flat_map, take}
use Rattle.kernel_edits.specs.Changing.{changed_at}
use Rattle.kernel_edits.proofs.lists.changed_list.Given as goal

abbrev pub invariant-loop-iname : goal.invariant-loop-iname
invariant-loop-iname l = l.made ≡ flat_map (changed_at l.first l.vars l.put) (take l.iname-index l.inames)
