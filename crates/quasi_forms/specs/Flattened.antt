-- Index forms as rows, with a variable for each different floor.
use Rattle.std.specs.Prelude.{◌≡◌, ◌<◌, ◌↔◌, ℕ, ◌+◌, ℤ, pos, ◌-ℤ◌, neg_ℤ, Bool, false, ◌&&◌, List, [], ◌∷◌, ◌++◌, map, flat_map}
use Rattle.std.specs.List.{list_all, position_or_len, AllByRecursion}
use Rattle.std.specs.Int.{int_div_euclid}
use Rattle.affine_rows.specs.declared.quasi.Quasi.{Quasi, out-Quasi}
use Rattle.affine_rows.specs.declared.quasi.Floor.{Floor, out-Floor}
use Rattle.affine_rows.specs.declared.row.Row.{Row}
use Rattle.affine_rows.specs.Rows.{Env, Holds, row_at}
use Rattle.affine_rows.specs.Forms.{form_at}
use Rattle.affine_rows.specs.Reduced.{fits_row}
use Rattle.quasi_forms.specs.Alike.{same_floor}
use Rattle.quasi_forms.specs.Collected.{collected_terms, scaled_terms}
use Rattle.quasi_forms.specs.Limits.{floors_of}

-- the variable of a floor: the first after the width for the first of the floors, and so on
abbrev pub floor_var : ℕ → List Floor → Floor → ℕ
floor_var width floors f = width + position_or_len (same_floor f) floors

-- the terms of a form, those of its floors as terms of their variables
abbrev pub flat_terms : ℕ → List Floor → Quasi → List (ℕ × ℤ)
flat_terms width floors q = (out-Quasi q).terms ++ map (λ f. (floor_var width floors f, (out-Floor f).times)) (out-Quasi q).floors

-- the row that says that the constant plus the terms is at least 0
abbrev pub row_over : ℤ → List (ℕ × ℤ) → Row
row_over constant terms = record { constant = constant; terms = collected_terms terms; equal = false }

-- the form is at least 0
unfoldable pub flat_row : ℕ → List Floor → Quasi → Row
flat_row width floors q = row_over (out-Quasi q).constant (flat_terms width floors q)

-- the terms of e - c*f, for a floor of e by c with the variable f
abbrev pub rest_terms : ℕ → List Floor → Floor → List (ℕ × ℤ)
rest_terms width floors f = flat_terms width floors (out-Floor f).inner ++ (floor_var width floors f, neg_ℤ (out-Floor f).by) ∷ []

-- e - c*f is at least 0
abbrev pub lower_row : ℕ → List Floor → Floor → Row
lower_row width floors f = row_over (out-Quasi (out-Floor f).inner).constant (rest_terms width floors f)

-- c - 1 - (e - c*f) is at least 0
abbrev pub upper_row : ℕ → List Floor → Floor → Row
upper_row width floors f = row_over ((out-Floor f).by -ℤ pos 1 -ℤ (out-Quasi (out-Floor f).inner).constant) (scaled_terms (neg_ℤ (pos 1)) (rest_terms width floors f))

-- the floor's number is that of its variable
unfoldable pub defining_rows : ℕ → List Floor → Floor → List Row
defining_rows width floors f = lower_row width floors f ∷ upper_row width floors f ∷ []

unfoldable pub all_defining_rows : ℕ → Quasi → List Row
all_defining_rows width q = flat_map (defining_rows width (floors_of q)) (floors_of q)

-- no entry of the rows passes 2^62
abbrev pub rows_fit : ℕ → Quasi → Bool
rows_fit width q = fits_row (flat_row width (floors_of q) q) && list_all fits_row (all_defining_rows width q)

-- the number of a floor, its factor aside
abbrev pub floor_number : Env → Floor → ℤ
floor_number env f = int_div_euclid (form_at env (out-Floor f).inner) (out-Floor f).by

-- the variable of each floor has the floor's number
abbrev pub HaveNumbers : ℕ → Quasi → Env → Type 0
HaveNumbers width q env = AllByRecursion (λ f. env (floor_var width (floors_of q) f) ≡ floor_number env f) (floors_of q)

-- the rows hold exactly where the variables of the floors have the floors' numbers
abbrev pub DefineFloors : ℕ → Quasi → List Row → Type 0
DefineFloors width q rows = (env : Env) → AllByRecursion (Holds env) rows ↔ HaveNumbers width q env

-- and there the row has the form's value
abbrev pub HasValueOf : ℕ → Quasi → Row → Type 0
HasValueOf width q row = (env : Env) → HaveNumbers width q env → row_at env row ≡ form_at env q

-- numbers of the variables below the width, and those of the floors besides
pub record Extended (width : ℕ) (q : Quasi) (env : Env) : Type 0 where
  pub numbers : Env
  pub same : (v : ℕ) → v < width → numbers v ≡ env v
  pub floors : HaveNumbers width q numbers
