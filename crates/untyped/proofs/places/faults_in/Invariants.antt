use Rattle.std.proofs.Common.{◌≡◌, drop}
use Rattle.untyped.specs.Readings.{faults_behind, no_faults}
use Rattle.untyped.proofs.places.faults_in.Given as goal

abbrev pub invariant-loop-operand : goal.invariant-loop-operand
invariant-loop-operand l = faults_behind l.faults (drop l.operand-index l.operands) ≡ faults_behind no_faults l.operands
