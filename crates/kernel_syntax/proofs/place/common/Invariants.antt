use Rattle.std.proofs.Common.{◌-◌, ◌+◌, ◌≡◌, drop, length}
use Rattle.kernel_syntax.specs.Places.{common}
use Rattle.kernel_syntax.proofs.place.common.Given as goal

abbrev pub invariant-bytes : goal.invariant-bytes
invariant-bytes l = l.count + common (drop l.count l.one) (drop l.count l.other) ≡ common l.one l.other

abbrev pub decreases-bytes : goal.decreases-bytes
decreases-bytes l = length l.one - l.count
