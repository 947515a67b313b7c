use Rattle.std.proofs.Common.{◌≡◌, take}
use Rattle.quasi_forms.specs.Collected.{collected_terms}
use Rattle.quasi_forms.proofs.terms.collected_terms.Given as goal

abbrev pub invariant-loop-var : goal.invariant-loop-var
invariant-loop-var l = l.made.items ≡ collected_terms (take l.var-index l.var-items)
