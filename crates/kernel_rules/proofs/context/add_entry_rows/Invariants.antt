use Rattle.std.proofs.Common.{◌≡◌, ◌++◌, map, take}
use Rattle.quasi_forms.specs.Renumbered.{renumbered_form}
use Rattle.kernel_rules.specs.Rows.{at_least_zero}
use Rattle.kernel_rules.proofs.context.add_entry_rows.Given as goal

abbrev pub invariant-loop-entry : goal.invariant-loop-entry
invariant-loop-entry l = l.made.items ≡ l.initial.made.items ++ map (λ q. at_least_zero (renumbered_form l.vars q)) (take l.entry-index l.shape)
