use Rattle.std.proofs.Common.{◌≡◌, drop}
use Rattle.kernel_lines.specs.Conditions.{both, chains_of}
use Rattle.kernel_lines.proofs.conditions.read_conditions.Given as goal

abbrev pub invariant-chains : goal.invariant-chains
invariant-chains g l = both l.conditions (chains_of (g.S.Scope.roles l.scope) l.word (drop l.chain-index l.chains)) ≡ chains_of (g.S.Scope.roles l.scope) l.word l.chains
