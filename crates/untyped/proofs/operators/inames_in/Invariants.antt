use Rattle.std.proofs.Common.{◌≡◌, ◌++◌, drop}
use Rattle.untyped.specs.Readings.{inames_in}
use Rattle.untyped.proofs.operators.inames_in.Given as goal

abbrev pub invariant-loop-name : goal.invariant-loop-name
invariant-loop-name g l = l.inames ++ inames_in (g.S.Scope.roles l.scope) (drop l.name-index l.names) ≡ inames_in (g.S.Scope.roles l.scope) l.names
