use Rattle.std.proofs.Common.{◌-◌, ◌≡◌, ◌≤◌, take}
use Rattle.kernel_syntax.proofs.place.begins.Given as goal

abbrev pub invariant-tokens : goal.invariant-tokens
invariant-tokens l = (l.tokens.items ≡ take l.count l.lexemes) × (l.count ≤ l.at)

abbrev pub decreases-tokens : goal.decreases-tokens
decreases-tokens l = l.at - l.count
