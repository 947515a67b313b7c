use Rattle.std.proofs.Common.{◌≡◌, ◌++◌, List, ℕ, take, bytes_eq}
use Rattle.std.specs.Prelude.{flat_map}
use Rattle.quasi_forms.specs.Alike.{distinct}
use Rattle.kernel_names.specs.Said.{own_in}
use Rattle.kernel_names.proofs.declarations.add_own.Given as goal

abbrev pub invariant-entries : goal.invariant-entries
invariant-entries l = (before : List (List ℕ)) → l.fn.names ≡ distinct bytes_eq before → l.names ≡ distinct bytes_eq (before ++ flat_map (λ e. own_in e.item) (take l.entry-index l.entries))
