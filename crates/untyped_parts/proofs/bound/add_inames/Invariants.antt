use Rattle.std.proofs.Common.{◌≡◌, ◌++◌, drop}
use Rattle.untyped_parts.proofs.bound.add_inames.Given as goal

abbrev pub invariant-loop-iname : goal.invariant-loop-iname
invariant-loop-iname l = l.bound.items ++ drop l.iname-index l.inames ≡ l.initial.bound.items ++ l.inames
