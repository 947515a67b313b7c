use Rattle.std.proofs.Common.{◌≡◌, map, take}
use Rattle.kernel_rules.specs.Pairs.{partner}
use Rattle.kernel_rules.proofs.pairs.partners.Given as goal

abbrev pub invariant-loop-iname : goal.invariant-loop-iname
invariant-loop-iname l = l.pairs ≡ map (partner l.vars.first.items l.vars.second.items) (take l.iname-index l.inames)
