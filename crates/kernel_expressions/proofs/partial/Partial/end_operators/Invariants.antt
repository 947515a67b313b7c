use Rattle.std.proofs.Common.{◌≡◌, length}
use Rattle.kernel_expressions.specs.Ended.{ended}
use Rattle.kernel_expressions.proofs.partial.Partial.end_operators.Given as goal

abbrev pub invariant-operators : goal.invariant-operators
invariant-operators l = ended l.from l.self.frames l.self.steps.items l.made ≡ ended l.from l.initial.self.frames l.initial.self.steps.items l.fn.operand

abbrev pub decreases-operators : goal.decreases-operators
decreases-operators l = length l.self.frames
