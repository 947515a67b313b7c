use Rattle.std.proofs.Common.{◌≡◌, ◌++◌, drop}
use Rattle.untyped.specs.Readings.{forms_in}
use Rattle.untyped.proofs.places.forms_in.Given as goal

abbrev pub invariant-loop-operand : goal.invariant-loop-operand
invariant-loop-operand l = l.forms ++ forms_in (drop l.operand-index l.operands) ≡ forms_in l.operands
