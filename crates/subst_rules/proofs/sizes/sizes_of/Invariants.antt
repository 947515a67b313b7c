use Rattle.std.proofs.Common.{◌≡◌}
use Rattle.subst_rules.specs.Sizes.{sizes_to}
use Rattle.subst_rules.proofs.sizes.sizes_of.Given as goal

abbrev pub invariant-loop-round : goal.invariant-loop-round
invariant-loop-round l = l.sizes.items ≡ sizes_to l.rules l._round
