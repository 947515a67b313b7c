-- The cell of an instruction, its dependences, and the names in its options.
use Rattle.std.specs.Prelude.{ℕ, Bool, true, false, ◌&&◌, nat_eq, if◌then◌else◌, bytes_eq, List, [], ◌∷◌, flat_map, Option, Some, None}
use Rattle.std.specs.List.{list_all, list_any}
use Rattle.expr_tree.specs.declared.tree.Cell.{Cell}
use Rattle.kernel_grammar.specs.declared.item.InsnOption.{InsnOption}
use Rattle.kernel_grammar.specs.declared.item.InsnOption.TheVariants.{Dep, Inames}
use Rattle.kernel_names.specs.declared.declarations.Declarations.{Declarations}
use Rattle.kernel_names.specs.Roles.{kernel_roles, may_store}
use Rattle.untyped.specs.declared.scope.Role.{Role}
use Rattle.untyped.specs.declared.scope.Role.TheVariants as role

-- a cell with so many places that may be stored to
abbrev pub cell_as : Declarations → ℕ → Role → Option Cell
cell_as D n (role.Cell cell places) = if nat_eq places n && may_store D cell then Some cell else None
cell_as D n _ = None

-- the cell that an instruction stores to; where there is none its name is unknown there
abbrev pub stored_cell : Declarations → List ℕ → ℕ → Option Cell
stored_cell D name n = cell_as D n (kernel_roles D name)

-- the ids of an option
abbrev pub ids_in : InsnOption → List (List ℕ)
ids_in (Dep automatic ids) = ids
ids_in _ = []

-- the dependences of an instruction, as they are written
abbrev pub deps_of : List InsnOption → List (List ℕ)
deps_of options = flat_map ids_in options

-- a star turns off the automatic dependences
abbrev pub without_star : InsnOption → Bool
without_star (Dep automatic ids) = automatic
without_star _ = true

abbrev pub is_automatic : List InsnOption → Bool
is_automatic options = list_all without_star options

abbrev pub is_iname : Role → Bool
is_iname (role.Iname v) = true
is_iname _ = false

-- the first of the names that is not known
abbrev pub first_unknown : (List ℕ → Bool) → List (List ℕ) → Option (List ℕ)
first_unknown known [] = None
first_unknown known (n ∷ ns) = if known n then first_unknown known ns else Some n

-- the first id in an option that no instruction has, or the first name that is no iname
abbrev pub unknown_in : Declarations → List (List ℕ) → InsnOption → Option (List ℕ)
unknown_in D ids (Dep automatic names) = first_unknown (λ n. list_any (bytes_eq n) ids) names
unknown_in D ids (Inames names) = first_unknown (λ n. is_iname (kernel_roles D n)) names
unknown_in D ids _ = None
