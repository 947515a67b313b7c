use Rattle.std.proofs.Common.{◌≡◌, ◌++◌, take}
use Rattle.kernel_lines.proofs.stores.add_ids.Given as goal

abbrev pub invariant-names : goal.invariant-names
invariant-names l = l.ids ≡ l.fn.ids ++ take l.name-index l.name-items
