use Rattle.std.proofs.Common.{◌≡◌, ◌++◌, drop}
use Rattle.kernel_names.specs.Said.{said_as}
use Rattle.kernel_names.proofs.said.say_all.Given as goal

abbrev pub invariant-names : goal.invariant-names
invariant-names l = l.said ++ said_as l.sort (drop l.name-index l.names) ≡ l.fn.said ++ said_as l.sort l.names
