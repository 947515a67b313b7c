use Rattle.std.proofs.Common.{◌-◌, ◌≤◌, length}
use Rattle.kernel_syntax.proofs.LineCounts.{IsCounted}
use Rattle.kernel_syntax.proofs.place.fault_behind.Given as goal

abbrev pub invariant-bytes : goal.invariant-bytes
invariant-bytes l = IsCounted l.bytes l.at l.line l.count × (l.at ≤ l.fn.end)

abbrev pub decreases-bytes : goal.decreases-bytes
decreases-bytes l = length l.bytes - l.at
