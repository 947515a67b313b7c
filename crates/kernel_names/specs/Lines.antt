-- What is wrong in a line with the names that it declares.
use Rattle.std.specs.Prelude.{ℕ, Bool, true, false, nat_lt, if◌then◌else◌, List, [], ◌∷◌, ◌++◌, map, bytes_eq, length, Option, Some, None, unwrap_or}
use Rattle.std.specs.List.{list_any}
use Rattle.std.specs.Option.{option_or}
use Rattle.kernel_ir.specs.Limits.{product}
use Rattle.kernel_grammar.specs.declared.file.Entry.{Entry}
use Rattle.kernel_grammar.specs.declared.item.Item.{Item}
use Rattle.kernel_grammar.specs.declared.item.Item.TheVariants as item
use Rattle.quasi_forms.specs.Alike.{distinct}
use Rattle.untyped.specs.declared.scope.Role.{Role}
use Rattle.untyped.specs.declared.scope.Role.TheVariants as role
use Rattle.kernel_names.specs.declared.said.Sort.{Sort}
use Rattle.kernel_names.specs.declared.said.Sort.TheVariants as sort
use Rattle.kernel_names.specs.declared.said.Said.{Said}
use Rattle.kernel_names.specs.declared.limit.Limit.{Limit}
use Rattle.kernel_names.specs.declared.limit.Limit.TheVariants as limit
use Rattle.kernel_names.specs.declared.limit.LineFaults.{LineFaults}
use Rattle.kernel_names.specs.Said.{said_in, declarations_in, names_declared}
use Rattle.kernel_names.specs.Roles.{is_parameter, count_as, roles_declared, role_at}

-- ---- limits

-- the limit that the names so far pass
abbrev pub limit_with : ℕ → ℕ → Option Limit
limit_with parameters names =
    if nat_lt 16 parameters then Some limit.Parameters else
    if nat_lt 65536 names then Some limit.Names else None

abbrev pub limit_of : List Said → Option Limit
limit_of said = limit_with (count_as is_parameter (declarations_in said)) (length (distinct bytes_eq (map (λ s. s.name) said)))

-- a number of a shape fits 64 bits, and is at most 1048576
abbrev pub entry_limit : Option ℕ → Option Limit
entry_limit None = Some limit.Wide
entry_limit (Some n) = if nat_lt 1048576 n then Some limit.Number else None

-- the first limit that a number of a shape passes
abbrev pub entries_limit : List (Option ℕ) → Option Limit
entries_limit [] = None
entries_limit (entry ∷ entries) = option_or (entry_limit entry) (entries_limit entries)

-- a temporary has at most 4096 cells
abbrev pub cells_limit : List (Option ℕ) → Option Limit
cells_limit shape = if nat_lt 4096 (product (map (λ entry. unwrap_or entry 0) shape)) then Some limit.Cells else None

-- an array or temporary has at most 8 places
abbrev pub places_limit : ℕ → Option Limit
places_limit places = if nat_lt 8 places then Some limit.Places else None

abbrev pub shape_limit : Item → Option Limit
shape_limit (item.Array name kind shape stored) = places_limit (length shape)
shape_limit (item.Temp name kind shape) = option_or (places_limit (length shape)) (option_or (entries_limit shape) (cells_limit shape))
shape_limit _ = None

-- ---- taken names

-- a name that stands for something is taken, but that before the arrow of a domain a variable is that variable
abbrev pub is_taken_as : Sort → Role → Bool
is_taken_as sort.Own r = false
is_taken_as s role.Unknown = false
is_taken_as sort.Parameter (role.Parameter v) = false
is_taken_as sort.Parameter (role.Iname v) = false
is_taken_as s r = true

-- what a name stands for, as far as these say
abbrev pub role_in : List Said → List ℕ → Role
role_in said name = role_at (names_declared said) (roles_declared said) name

-- the first name that stood before
abbrev pub repeated_behind : List (List ℕ) → List (List ℕ) → Option (List ℕ)
repeated_behind before [] = None
repeated_behind before (n ∷ ns) = if list_any (bytes_eq n) before then Some n else repeated_behind (before ++ n ∷ []) ns

-- a rule's own parameters differ
abbrev pub repeated_own : Item → Option (List ℕ)
repeated_own (item.Rule name params body) = repeated_behind [] params
repeated_own _ = None

-- ---- lines

abbrev pub no_faults : LineFaults
no_faults = record { limit = None; unknown = None; taken = None; shape = None }

-- the first of each
abbrev pub first_faults : LineFaults → LineFaults → LineFaults
first_faults a b = record {
  limit = option_or a.limit b.limit;
  unknown = option_or a.unknown b.unknown;
  taken = option_or a.taken b.taken;
  shape = option_or a.shape b.shape;
}

-- what is wrong with a name behind others
abbrev pub said_faults : List Said → Said → LineFaults
said_faults before s = record no_faults {
  limit = limit_of (before ++ s ∷ []);
  taken = if is_taken_as s.sort (role_in before s.name) then Some s.name else None;
}

-- what is wrong first with names behind others
abbrev pub faults_along : List Said → List Said → LineFaults
faults_along before [] = no_faults
faults_along before (s ∷ ss) = first_faults (said_faults before s) (faults_along (before ++ s ∷ []) ss)

-- a line behind others: what its names pass, then its shape; which name is taken, then which own parameter is repeated
abbrev pub line_faults : List Said → Item → LineFaults
line_faults before line = first_faults (faults_along before (said_in line)) (record no_faults { limit = shape_limit line; taken = repeated_own line })

-- each line, behind those before it
abbrev pub faults_behind : List Said → List Entry → List LineFaults
faults_behind before [] = []
faults_behind before (e ∷ es) = line_faults before e.item ∷ faults_behind (before ++ said_in e.item) es

abbrev pub faults_of : List Entry → List LineFaults
faults_of entries = faults_behind [] entries
