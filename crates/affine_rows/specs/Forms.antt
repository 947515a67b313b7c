-- The value of an index form, and how it is measured.
use Rattle.std.specs.Prelude.{ℕ, ◌+◌, ◌-◌, ◌*◌, ◌/◌, ◌^◌, ◌≤◌, ℤ, pos, ◌+ℤ◌, ◌*ℤ◌, ◌≤ℤ◌, List, [], ◌∷◌, sum, sum_by, unsigned_abs}
use Rattle.std.specs.Int.{int_div_euclid}
use Rattle.affine_rows.specs.declared.quasi.Quasi.{Quasi, Quasi-F, roll-Quasi, out-Quasi, fold-Quasi, every-Quasi}
use Rattle.affine_rows.specs.declared.quasi.Floor.{Floor, Floor-F, out-Floor, fold-Floor, every-Floor}
use Rattle.affine_rows.specs.Rows.{Env, terms_at}

-- a form without floors
abbrev pub affine : ℤ → List (ℕ × ℤ) → Quasi
affine constant terms = roll-Quasi (record { constant = constant; terms = terms; floors = [] })

-- the sum of integers
abbrev pub total : List ℤ → ℤ
total [] = pos 0
total (z ∷ zs) = z +ℤ total zs

-- one floor, with the value of its inner form in that form's place
abbrev pub floor_step : Floor-F ℤ ℤ → ℤ
floor_step f = f.times *ℤ int_div_euclid f.inner f.by

-- one form, with the value of each floor in the floor's place
abbrev pub form_step : Env → Quasi-F ℤ ℤ → ℤ
form_step env q = q.constant +ℤ (terms_at env q.terms +ℤ total q.floors)

-- the value of a form
abbrev pub form_at : Env → Quasi → ℤ
form_at env = fold-Quasi ℤ ℤ floor_step (form_step env)

-- the value of a floor
abbrev pub floor_at : Env → Floor → ℤ
floor_at env = fold-Floor ℤ ℤ floor_step (form_step env)

-- a quotient rounded up
abbrev pub ceil_div : ℕ → ℕ → ℕ
ceil_div n by = (n + (by - 1)) / by

-- a floor counts its absolute factor times what the form under it counts, divided and rounded up
abbrev pub floor_count : Floor-F ℕ ℕ → ℕ
floor_count f = unsigned_abs f.times * ceil_div f.inner (unsigned_abs f.by)

abbrev pub sum_step : Quasi-F ℕ ℕ → ℕ
sum_step q = sum_by (λ t. unsigned_abs t.1) q.terms + sum q.floors

abbrev pub constant_step : Quasi-F ℕ ℕ → ℕ
constant_step q = unsigned_abs q.constant + sum q.floors

-- the sum of a form: its absolute coefficients, and what its floors count
abbrev pub sum_count : Quasi → ℕ
sum_count = fold-Quasi ℕ ℕ floor_count sum_step

-- the constant of a form, counted likewise
abbrev pub constant_count : Quasi → ℕ
constant_count = fold-Quasi ℕ ℕ floor_count constant_step

-- neither the sum nor the constant passes 2^62, and the factors of the floors together do not pass 2^63
pub record IsSmall (q : Quasi) : Type 0 where
  pub sum : sum_count q ≤ 2 ^ 62
  pub constant : constant_count q ≤ 2 ^ 62
  pub factors : sum_by (λ f. unsigned_abs (out-Floor f).times) (out-Quasi q).floors ≤ 2 ^ 63

-- the divisor is at least 1, and the factor does not pass 2^62
pub record IsQuotient (times by : ℤ) : Type 0 where
  pub positive : pos 1 ≤ℤ by
  pub entry : unsigned_abs times ≤ 2 ^ 62

-- each floor has a divisor and a factor within the limits, and each form is small
pub record IsForm (q : Quasi) : Type 0 where
  pub layers : every-Quasi (λ f. IsQuotient f.times f.by) (λ layer. IsSmall (roll-Quasi layer)) q

pub record IsFloor (f : Floor) : Type 0 where
  pub layers : every-Floor (λ f. IsQuotient f.times f.by) (λ layer. IsSmall (roll-Quasi layer)) f
