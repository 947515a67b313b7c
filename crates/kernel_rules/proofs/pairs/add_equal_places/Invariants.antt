use Rattle.std.proofs.Common.{◌≡◌, ◌++◌, drop}
use Rattle.kernel_rules.specs.Pairs.{equal_places}
use Rattle.kernel_rules.proofs.pairs.add_equal_places.Given as goal

abbrev pub invariant-loop-at : goal.invariant-loop-at
invariant-loop-at l = l.made.items ++ equal_places l.vars.first.items l.vars.second.items (drop l.at l.first) (drop l.at l.second) ≡ l.initial.made.items ++ equal_places l.vars.first.items l.vars.second.items l.first l.second
