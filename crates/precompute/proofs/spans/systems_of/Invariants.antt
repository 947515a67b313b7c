use Rattle.std.proofs.Common.{All}
use Rattle.elimination.specs.Stages.{IsSystem}
use Rattle.precompute.proofs.spans.systems_of.Given as goal

abbrev pub invariant-loop-part : goal.invariant-loop-part
invariant-loop-part l = All IsSystem l.systems
