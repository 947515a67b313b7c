use Rattle.std.proofs.Common.{◌≡◌, ◌++◌, map, take}
use Rattle.kernel_rules.specs.Pairs.{equal_home}
use Rattle.kernel_rules.proofs.pairs.add_equal_homes.Given as goal

abbrev pub invariant-loop-home : goal.invariant-loop-home
invariant-loop-home l = l.made.items ≡ l.initial.made.items ++ map (equal_home l.vars.first.items l.vars.second.items) (take l.home-index l.homes)
