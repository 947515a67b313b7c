use Rattle.std.proofs.Common.{◌≡◌, drop}
use Rattle.untyped.specs.Readings.{no_iname_in}
use Rattle.untyped.proofs.operators.no_iname_in.Given as goal

abbrev pub invariant-loop-name : goal.invariant-loop-name
invariant-loop-name g l = no_iname_in (g.S.Scope.roles l.scope) (drop l.name-index l.names) ≡ no_iname_in (g.S.Scope.roles l.scope) l.names
