-- Which rows and variables are those of a system.
use Rattle.std.specs.Prelude.{ℕ, ◌^◌, ℤ, Bool, true, false, ◌&&◌, not, nat_eq, nat_le, nat_lt, unsigned_abs, List, [], ◌∷◌, filter}
use Rattle.std.specs.List.{list_all}
use Rattle.affine_rows.specs.declared.row.Row.{Row}
use Rattle.affine_rows.specs.declared.row.System.{System}
use Rattle.set_query.specs.declared.pair.Differ.{Differ}
use Rattle.set_query.specs.declared.pair.Differ.TheVariants.{Free, Among}
use Rattle.set_query.specs.declared.pair.Pair.{Pair}

-- the variable is below the width, and the factor is an entry of a row and not 0
abbrev pub is_term : ℕ → ℕ × ℤ → Bool
is_term width t = nat_lt t.0 width && (nat_lt 0 (unsigned_abs t.1) && nat_le (unsigned_abs t.1) (2 ^ 62))

abbrev pub is_below : ℕ → List (ℕ × ℤ) → Bool
is_below v [] = true
is_below v (t ∷ ts) = nat_lt v t.0

-- each variable is below the next
abbrev pub are_rising : List (ℕ × ℤ) → Bool
are_rising [] = true
are_rising (t ∷ ts) = is_below t.0 ts && are_rising ts

-- the row is one over variables below the width
unfoldable pub is_row : ℕ → Row → Bool
is_row width r = nat_le (unsigned_abs r.constant) (2 ^ 62) && (list_all (is_term width) r.terms && are_rising r.terms)

-- the system without rows of other variables; it is as it was where all forms are over its variables
abbrev pub kept_system : System → System
kept_system s = record s { rows = filter (is_row s.width) s.rows }

-- two variables of the system
abbrev pub are_two : ℕ → ℕ × ℕ → Bool
are_two width p = nat_lt p.0 width && (nat_lt p.1 width && not (nat_eq p.0 p.1))

-- the variables that are to differ, where they are those of the system
abbrev pub differ_where : Bool → List (ℕ × ℕ) → Differ
differ_where true pairs = Among pairs
differ_where false pairs = Free

abbrev pub differ_of : Bool → ℕ → List (ℕ × ℕ) → Differ
differ_of asked width pairs = differ_where (asked && list_all (are_two width) pairs) pairs

abbrev pub pair_over : System → List (ℕ × ℕ) → Bool → Pair
pair_over s pairs asked = record { system = s; differ = differ_of asked s.width pairs }
