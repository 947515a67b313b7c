use Rattle.std.proofs.Common.{◌≡◌, [], drop}
use Rattle.untyped.specs.Readings.{steps_read}
use Rattle.untyped.proofs.steps.read_untyped.Given as goal

abbrev pub invariant-loop-step : goal.invariant-loop-step
invariant-loop-step g l = steps_read (g.S.Scope.roles l.scope) (drop l.step-index l.steps) l.parts.items ≡ steps_read (g.S.Scope.roles l.scope) l.steps []
