use Rattle.std.proofs.Common.{◌-◌, ◌≤◌, length}
use Rattle.kernel_syntax.specs.Refused.{IsBlankTo}
use Rattle.kernel_syntax.proofs.place.behind_blanks.Given as goal

abbrev pub invariant-blanks : goal.invariant-blanks
invariant-blanks l = l.fn.from ≤ length l.bytes → IsBlankTo l.bytes l.fn.from l.at

abbrev pub decreases-blanks : goal.decreases-blanks
decreases-blanks l = length l.bytes - l.at
