use Rattle.std.proofs.Common.{◌≡◌, map, take}
use Rattle.set_query.specs.Bounding.{negated_term}
use Rattle.set_query.proofs.opposites.negated_terms.Given as goal

abbrev pub invariant-loop-term : goal.invariant-loop-term
invariant-loop-term l = l.made ≡ map negated_term (take l.term-index l.terms)
