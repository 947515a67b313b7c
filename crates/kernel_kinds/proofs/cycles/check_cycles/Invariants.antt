use Rattle.std.proofs.Common.{map}
use Rattle.kernel_kinds.specs.Calls.{rules_in}
use Rattle.kernel_kinds.proofs.Ways.{NoneBelow}
use Rattle.kernel_kinds.proofs.cycles.check_cycles.Given as goal

abbrev pub invariant-loop-rule : goal.invariant-loop-rule
invariant-loop-rule l = NoneBelow (map rules_in l.bodies) l.rule
