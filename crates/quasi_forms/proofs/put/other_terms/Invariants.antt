use Rattle.std.proofs.Common.{◌≡◌, not, take}
use Rattle.std.specs.List.{filter}
use Rattle.expr_tree.specs.Scenes.{is_among}
use Rattle.quasi_forms.proofs.put.other_terms.Given as goal

abbrev pub invariant-loop-term : goal.invariant-loop-term
invariant-loop-term l = l.others ≡ filter (λ t. not (is_among l.vars t.0)) (take l.term-index l.terms)
