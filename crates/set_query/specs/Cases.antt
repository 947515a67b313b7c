-- The cases in which two instances differ.
use Rattle.std.specs.Prelude.{◌≢◌, ◌↔◌, ℕ, ◌<◌, ◌⊎◌, ℤ, pos, neg_ℤ, List, [], ◌∷◌, ◌++◌, false, true, if◌then◌else◌, nat_lt, All}
use Rattle.affine_rows.specs.declared.row.Row.{Row}
use Rattle.affine_rows.specs.declared.row.System.{System}
use Rattle.affine_rows.specs.Rows.{Env, Holds}
use Rattle.elimination.specs.Stages.{IsSystem}
use Rattle.elimination.specs.Shadows.{Each}
use Rattle.set_query.specs.declared.pair.Differ.{Differ}
use Rattle.set_query.specs.declared.pair.Differ.TheVariants.{Free, Among}
use Rattle.set_query.specs.declared.pair.Pair.{Pair}

-- two variables below the width
pub record AreTwo (width : ℕ) (p : ℕ × ℕ) : Type 0 where
  pub first : p.0 < width
  pub second : p.1 < width
  pub other : p.0 ≢ p.1

-- the variables that are to differ are those of the system
abbrev pub AreVariables : ℕ → Differ → Type 0
AreVariables width Free = Unit {0}
AreVariables width (Among pairs) = All (AreTwo width) pairs

-- a system, and pairs of its variables
pub record IsPair (p : Pair) : Type 0 where
  pub system : IsSystem p.system
  pub variables : AreVariables p.system.width p.differ

-- ---- the cases

-- the terms of y - x
abbrev pub difference : ℕ → ℕ → List (ℕ × ℤ)
difference x y = if nat_lt x y then ((x, neg_ℤ (pos 1)) ∷ (y, pos 1) ∷ []) else ((y, pos 1) ∷ (x, neg_ℤ (pos 1)) ∷ [])

-- y - x - 1 >= 0
unfoldable pub less_row : ℕ → ℕ → Row
less_row x y = record { constant = neg_ℤ (pos 1); terms = difference x y; equal = false }

-- x - y = 0
unfoldable pub equal_row : ℕ → ℕ → Row
equal_row x y = record { constant = pos 0; terms = difference y x; equal = true }

-- the system with a row behind its rows
abbrev pub with_row : System → Row → System
with_row s r = record { width = s.width; rows = s.rows ++ r ∷ [] }

-- the first pair's cases, below and above, and then those of the other pairs where the first pair's variables are equal
abbrev pub cases_among : System → List (ℕ × ℕ) → List System
cases_among s [] = []
cases_among s (p ∷ ps) = with_row s (less_row p.0 p.1) ∷ with_row s (less_row p.1 p.0) ∷ cases_among (with_row s (equal_row p.0 p.1)) ps

-- the cases in order
abbrev pub cases_of : System → Differ → List System
cases_of s Free = s ∷ []
cases_of s (Among pairs) = cases_among s pairs

-- ---- what they cover

-- a fact of some element
abbrev pub HasSome : {A : Type 0} → (A → Type 0) → List A → Type 0
HasSome P [] = ⊥
HasSome P (x ∷ xs) = P x ⊎ HasSome P xs

-- an integer point of the system
abbrev pub IsIntegerPoint : Env → System → Type 0
IsIntegerPoint at s = Each (Holds at) s.rows

-- the variables of some pair differ
abbrev pub Differs : Env → Differ → Type 0
Differs at Free = Unit {0}
Differs at (Among pairs) = HasSome (λ p. at p.0 ≢ at p.1) pairs

-- the integer points of the cases are those of the system at which the variables of some pair differ
abbrev pub AreCovered : Type 0
AreCovered = (s : System) (differ : Differ) (at : Env) → HasSome (IsIntegerPoint at) (cases_of s differ) ↔ (IsIntegerPoint at s × Differs at differ)
