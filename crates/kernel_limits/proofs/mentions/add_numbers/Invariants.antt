use Rattle.std.proofs.Common.{◌≡◌, ◌++◌, take}
use Rattle.kernel_limits.proofs.mentions.add_numbers.Given as goal

abbrev pub invariant-loop-number : goal.invariant-loop-number
invariant-loop-number l = l.made ≡ l.initial.made ++ take l.number-index l.numbers
