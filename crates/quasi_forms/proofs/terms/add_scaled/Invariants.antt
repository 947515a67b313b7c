use Rattle.std.proofs.Common.{◌≡◌, ◌++◌, take}
use Rattle.quasi_forms.specs.Collected.{scaled_terms}
use Rattle.quasi_forms.proofs.terms.add_scaled.Given as goal

abbrev pub invariant-loop-var : goal.invariant-loop-var
invariant-loop-var l = l.made.items ≡ l.initial.made.items ++ scaled_terms l.fn.by (take l.var-index l.terms)
