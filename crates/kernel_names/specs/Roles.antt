-- What names stand for.
use Rattle.std.specs.Prelude.{ℕ, Bool, true, false, if◌then◌else◌, List, [], ◌∷◌, ◌++◌, flat_map, filter, bytes_eq, length, slice_get, Option, Some, None, unwrap_or}
use Rattle.std.specs.List.{list_any, position}
use Rattle.expr_tree.specs.declared.tree.Cell.{Cell}
use Rattle.expr_tree.specs.declared.tree.Cell.TheVariants as cell
use Rattle.kernel_grammar.specs.declared.file.Entry.{Entry}
use Rattle.untyped.specs.declared.scope.Role.{Role}
use Rattle.untyped.specs.declared.scope.Role.TheVariants as role
use Rattle.untyped.specs.Readings.{Roles}
use Rattle.kernel_names.specs.declared.said.Sort.{Sort}
use Rattle.kernel_names.specs.declared.said.Sort.TheVariants as sort
use Rattle.kernel_names.specs.declared.said.Said.{Said}
use Rattle.kernel_names.specs.declared.declarations.Declarations.{Declarations}
use Rattle.kernel_names.specs.Said.{said_by, declarations_in, names_of}

abbrev pub is_parameter : Sort → Bool
is_parameter sort.Parameter = true
is_parameter _ = false

abbrev pub is_array : Sort → Bool
is_array (sort.Array places stored) = true
is_array _ = false

abbrev pub is_temp : Sort → Bool
is_temp (sort.Temp places) = true
is_temp _ = false

abbrev pub is_rule : Sort → Bool
is_rule sort.Rule = true
is_rule _ = false

-- how many declarations are of a sort
abbrev pub count_as : (Sort → Bool) → List Said → ℕ
count_as is ds = length (filter (λ d. is d.sort) ds)

-- what a name stands for whose declaration stands behind these: variables are numbered among all names, arrays, temporaries and rules
-- among their own
abbrev pub role_behind : List Said → Sort → Role
role_behind before sort.Parameter = role.Parameter (length before)
role_behind before sort.Iname = role.Iname (length before)
role_behind before (sort.Array places stored) = role.Cell (cell.Array (count_as is_array before)) places
role_behind before (sort.Temp places) = role.Cell (cell.Temp (count_as is_temp before)) places
role_behind before sort.Rule = role.Rule (count_as is_rule before)
role_behind before sort.Own = role.Unknown

abbrev pub roles_behind : List Said → List Said → List Role
roles_behind before [] = []
roles_behind before (d ∷ ds) = role_behind before d.sort ∷ roles_behind (before ++ d ∷ []) ds

-- what the names of the one name space stand for
abbrev pub roles_declared : List Said → List Role
roles_declared said = roles_behind [] (declarations_in said)

abbrev pub found_role : List Role → Option ℕ → Role
found_role roles None = role.Unknown
found_role roles (Some at) = unwrap_or (slice_get roles at) role.Unknown

-- a name stands for the role at its place
abbrev pub role_at : List (List ℕ) → List Role → List ℕ → Role
role_at names roles name = found_role roles (position (bytes_eq name) names)

-- ---- all names of a file

-- whether an array may be stored to
abbrev pub stored_as : Sort → List Bool
stored_as (sort.Array places stored) = stored ∷ []
stored_as _ = []

-- which of the arrays may be stored to
abbrev pub stored_declared : List Said → List Bool
stored_declared said = flat_map (λ d. stored_as d.sort) (declarations_in said)

-- the names of a file, what those of the one name space, which come first, stand for, and which arrays may be stored to
abbrev pub declarations_of : List Entry → Declarations
declarations_of entries = record {
  names = names_of entries;
  roles = roles_declared (said_by entries);
  stored = stored_declared (said_by entries);
}

-- in instructions and domains
abbrev pub kernel_roles : Declarations → Roles
kernel_roles D name = role_at D.names D.roles name

abbrev pub no_iname : Role → Role
no_iname (role.Iname v) = role.Unknown
no_iname r = r

-- in assumptions and shapes
abbrev pub parameter_roles : Declarations → Roles
parameter_roles D name = no_iname (kernel_roles D name)

-- a temporary may be stored to, and an array that is no `input`
abbrev pub may_store : Declarations → Cell → Bool
may_store D (cell.Array n) = unwrap_or (slice_get D.stored n) false
may_store D (cell.Temp n) = true

-- the number of a name that is a variable
abbrev pub number_of : Declarations → List ℕ → ℕ
number_of D name = unwrap_or (position (bytes_eq name) D.names) 0

-- the name of a variable
abbrev pub name_of : Declarations → ℕ → List ℕ
name_of D var = unwrap_or (slice_get D.names var) []

-- in the body of a rule with these parameters of its own
abbrev pub body_roles : Declarations → List (List ℕ) → Roles
body_roles D own name = if list_any (bytes_eq name) own then role.Parameter (number_of D name) else parameter_roles D name

-- ---- variables in declared order

abbrev pub parameter_in : Role → List ℕ
parameter_in (role.Parameter v) = v ∷ []
parameter_in _ = []

abbrev pub iname_in : Role → List ℕ
iname_in (role.Iname v) = v ∷ []
iname_in _ = []

abbrev pub parameters_of : Declarations → List ℕ
parameters_of D = flat_map parameter_in D.roles

abbrev pub inames_of : Declarations → List ℕ
inames_of D = flat_map iname_in D.roles
