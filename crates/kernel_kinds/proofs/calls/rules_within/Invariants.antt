use Rattle.std.proofs.Common.{◌≡◌, ◌++◌, drop}
use Rattle.kernel_kinds.specs.Calls.{rules_in}
use Rattle.kernel_kinds.specs.Tables.{within}
use Rattle.kernel_kinds.proofs.calls.rules_within.Given as goal

abbrev pub invariant-loop-call : goal.invariant-loop-call
invariant-loop-call l = l.rules ++ within l.count (rules_in (drop l.call-index l.calls)) ≡ within l.count (rules_in l.calls)
