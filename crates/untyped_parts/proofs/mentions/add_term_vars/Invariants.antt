use Rattle.std.proofs.Common.{◌≡◌, ◌++◌, map, drop}
use Rattle.untyped_parts.proofs.mentions.add_term_vars.Given as goal

abbrev pub invariant-loop-term : goal.invariant-loop-term
invariant-loop-term l = l.vars.items ++ map (λ t. t.0) (drop l.term-index l.terms) ≡ l.initial.vars.items ++ map (λ t. t.0) l.terms
