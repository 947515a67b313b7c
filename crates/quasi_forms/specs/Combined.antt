-- Sums of multiples of forms in which nothing is collected yet.
use Rattle.std.specs.Prelude.{◌≡◌, ℕ, ◌+◌, ◌^◌, ◌≤◌, ℤ, ◌*ℤ◌, List, map, flat_map, sum_by, unsigned_abs, All}
use Rattle.std.specs.List.{AllByRecursion}
use Rattle.affine_rows.specs.declared.quasi.Quasi.{Quasi, out-Quasi}
use Rattle.affine_rows.specs.declared.quasi.Floor.{Floor, out-Floor}
use Rattle.affine_rows.specs.Forms.{total}
use Rattle.quasi_forms.specs.Collected.{IsWide, scaled_terms, scaled_floors}

-- the constant, the terms and the factors of the floors are within their limits, and so is the form under each floor
pub record IsPart (q : Quasi) : Type 0 where
  pub constant : unsigned_abs (out-Quasi q).constant ≤ 2 ^ 62
  pub terms : sum_by (λ t. unsigned_abs t.1) (out-Quasi q).terms ≤ 2 ^ 62
  pub factors : sum_by (λ f. unsigned_abs (out-Floor f).times) (out-Quasi q).floors ≤ 2 ^ 63
  pub floors : All IsWide (out-Quasi q).floors

-- forms with their factors
abbrev pub Multiples : Type 0
Multiples = List (ℤ × Quasi)

-- the sum of the absolute factors of multiples
abbrev pub weight : Multiples → ℕ
weight ms = sum_by (λ m. unsigned_abs m.0) ms

-- the constant, the terms and the floors are those of the multiples of these parts
pub record IsSum (ms : Multiples) (c : ℤ) (ts : List (ℕ × ℤ)) (fs : List Floor) : Type 0 where
  pub parts : AllByRecursion (λ m. IsPart m.1) ms
  pub constant : c ≡ total (map (λ m. m.0 *ℤ (out-Quasi m.1).constant) ms)
  pub terms : ts ≡ flat_map (λ m. scaled_terms m.0 (out-Quasi m.1).terms) ms
  pub floors : fs ≡ flat_map (λ m. scaled_floors m.0 (out-Quasi m.1).floors) ms

-- a sum with room for a multiple by a number: the absolute factors with that number do not pass 2^63 + 1
pub record HasRoom (number : ℕ) (c : ℤ) (ts : List (ℕ × ℤ)) (fs : List Floor) : Type 0 where
  pub multiples : Multiples
  pub sum : IsSum multiples c ts fs
  pub light : weight multiples + number ≤ 2 ^ 63 + 1
