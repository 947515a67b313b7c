-- Rational points of rows, seen from all variables but one.
use Rattle.std.specs.Prelude.{ℕ, ◌*◌, ◌<◌, ℤ, pos, ◌*ℤ◌, List, [], ◌∷◌, if◌then◌else◌, nat_eq, ◌↔◌}
use Rattle.affine_rows.specs.declared.row.Row.{Row}
use Rattle.affine_rows.specs.Rows.{Env}
use Rattle.affine_rows.specs.Reduced.{HoldsOver}

-- a fact of each element
abbrev pub Each : {A : Type 0} → (A → Type 0) → List A → Type 0
Each P [] = Unit {0}
Each P (x ∷ xs) = P x × Each P xs

-- all rows hold at the numbers `at` over the denominator `over`
abbrev pub AllHold : ℕ → Env → List Row → Type 0
AllHold over at rows = Each (HoldsOver over at) rows

-- the point scaled by k, with another number for one variable
abbrev pub moved : ℕ → ℕ → ℤ → Env → Env
moved k var y at other = if nat_eq other var then y else pos k *ℤ at other

-- the rows have a rational point with the given values of the other variables
abbrev pub HasPoint : ℕ → List Row → ℕ → Env → Type 0
HasPoint var rows over at = (k : ℕ) × (y : ℤ) × (0 < k) × AllHold (k * over) (moved k var y at) rows

-- the second rows hold exactly at those values of the other variables at which the first have a rational point
abbrev pub IsShadow : ℕ → List Row → List Row → Type 0
IsShadow var rows shadow = (over : ℕ) (at : Env) → 0 < over → HasPoint var rows over at ↔ AllHold over at shadow

-- the rows hold with some rational numbers of these variables, and the given values of the others
abbrev pub HasPoints : List ℕ → List Row → ℕ → Env → Type 0
HasPoints [] rows over at = AllHold over at rows
HasPoints (v ∷ vs) rows over at = (k : ℕ) × (y : ℤ) × (0 < k) × HasPoints vs rows (k * over) (moved k v y at)

-- the second rows hold exactly at those values of the other variables at which the first have a rational point
abbrev pub AreShadow : List ℕ → List Row → List Row → Type 0
AreShadow vs rows shadow = (over : ℕ) (at : Env) → 0 < over → HasPoints vs rows over at ↔ AllHold over at shadow
