use Rattle.std.proofs.Common.{◌≡◌, ◌++◌, drop}
use Rattle.kernel_kinds.specs.Calls.{calls_of}
use Rattle.kernel_kinds.proofs.calls.calls_of.Given as goal

abbrev pub invariant-loop-rule : goal.invariant-loop-rule
invariant-loop-rule l = l.bodies ++ calls_of (drop l.rule-index l.rules) ≡ calls_of l.rules
