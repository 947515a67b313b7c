use Rattle.std.proofs.Common.{◌≡◌, ◌++◌, List, ℕ, take, bytes_eq}
use Rattle.quasi_forms.specs.Alike.{distinct}
use Rattle.kernel_names.proofs.declarations.add_names.Given as goal

abbrev pub invariant-added : goal.invariant-added
invariant-added l = (before : List (List ℕ)) → l.fn.names ≡ distinct bytes_eq before → l.names ≡ distinct bytes_eq (before ++ take l.name-index l.added)
