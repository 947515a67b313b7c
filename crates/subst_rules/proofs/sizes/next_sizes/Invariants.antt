use Rattle.std.proofs.Common.{◌≡◌, map, take}
use Rattle.subst_rules.specs.Sizes.{size_in, size_with}
use Rattle.subst_rules.proofs.sizes.next_sizes.Given as goal

abbrev pub invariant-loop-rule : goal.invariant-loop-rule
invariant-loop-rule l = l.next.items ≡ map (λ r. size_with (size_in l.sizes) r.body) (take l.rule-index l.rules)
