use Rattle.std.proofs.Common.{◌≡◌, ◌++◌, map, length, drop}
use Rattle.kernel_kinds.specs.Calls.{uses_of}
use Rattle.kernel_kinds.specs.Tables.{uses_among, within}
use Rattle.kernel_kinds.proofs.calls.uses_among.Given as goal

abbrev pub invariant-loop-rule : goal.invariant-loop-rule
invariant-loop-rule l = l.uses ++ map (within (length l.rules)) (uses_of (drop l.rule-index l.rules)) ≡ uses_among l.rules
