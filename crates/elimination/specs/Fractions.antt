-- Bounds on a variable by fractions.
use Rattle.std.specs.Prelude.{◌≡◌, ℕ, ◌+◌, ◌*◌, ◌^◌, ◌<◌, ◌≤◌, ℤ, pos, ◌*ℤ◌, ◌≤ℤ◌, neg_ℤ, Bool, true, ◌&&◌, ◌||◌, if◌then◌else◌, int_lt, Option, MatchOption, unsigned_abs}
use Rattle.std.specs.Int.{◌∣◌}
use Rattle.affine_rows.specs.declared.point.Point.{Point}
use Rattle.affine_rows.specs.declared.row.Row.{Row}
use Rattle.affine_rows.specs.Rows.{env_of}
use Rattle.affine_rows.specs.Reduced.{factor_of, value_over}
use Rattle.elimination.specs.declared.fractions.Fraction.{Fraction}
use Rattle.elimination.specs.declared.bounding.Side.{Side}
use Rattle.elimination.specs.declared.bounding.Side.TheVariants.{Below, Above}
use Rattle.elimination.specs.Points.{IsPick, over_of}

-- the first fraction is at most the second
abbrev pub IsAtMost : Fraction → Fraction → Type 0
IsAtMost f g = (pos g.by *ℤ f.number) ≤ℤ (pos f.by *ℤ g.number)

-- the first bound on that side is at least as tight
abbrev pub IsAsTight : Side → Fraction → Fraction → Type 0
IsAsTight Below f g = IsAtMost g f
IsAsTight Above f g = IsAtMost f g

-- y / k is not on the wrong side of the bound
abbrev pub Respects : Side → Fraction → ℕ → ℤ → Type 0
Respects Below b k y = (pos k *ℤ b.number) ≤ℤ (pos b.by *ℤ y)
Respects Above b k y = (pos b.by *ℤ y) ≤ℤ (pos k *ℤ b.number)

-- nor of one that there may be
abbrev pub RespectsAny : Side → Option Fraction → ℕ → ℤ → Type 0
RespectsAny side bound k y = MatchOption bound (Unit {0}) (λ b. Respects side b k y)

-- y / k is between the bounds
abbrev pub IsWithin : Option Fraction → Option Fraction → ℕ → ℤ → Type 0
IsWithin lower upper k y = RespectsAny Below lower k y × RespectsAny Above upper k y

-- a row with this factor bounds the variable on that side
abbrev pub bounds_on : Side → Bool → ℤ → Bool
bounds_on Below equal f = int_lt (pos 0) f || (equal && int_lt f (pos 0))
bounds_on Above equal f = int_lt f (pos 0) || (equal && int_lt (pos 0) f)

-- the row's bound on the variable: the fraction at which the value is 0, multiplied by the point's denominator
unfoldable pub bound_of : ℕ → Point → Row → Fraction
bound_of var p r = record {
  number = if int_lt (pos 0) (factor_of var r.terms) then neg_ℤ (value_over (over_of p) (env_of p.at) r) else value_over (over_of p) (env_of p.at) r;
  by = unsigned_abs (factor_of var r.terms);
}

-- where the row bounds the variable on that side, y / k respects it
abbrev pub RespectsRow : Side → ℕ → Point → ℕ → ℤ → Row → Type 0
RespectsRow side var p k y r = bounds_on side r.equal (factor_of var r.terms) ≡ true → Respects side (bound_of var p r) k y

-- a bound that a row can give
pub record IsBound (b : Fraction) : Type 0 where
  pub positive : 0 < b.by
  pub by : b.by ≤ 2 ^ 62
  pub number : unsigned_abs b.number ≤ 2 ^ 126

-- a bound, or none
abbrev pub IsAnyBound : Option Fraction → Type 0
IsAnyBound bound = MatchOption bound (Unit {0}) IsBound

-- each number that makes the fraction whole is a multiple of its denominator
abbrev pub IsReduced : Fraction → Type 0
IsReduced f = (t : ℕ) (q : ℤ) → pos t *ℤ f.number ≡ pos f.by *ℤ q → f.by ∣ t

-- the same fraction
abbrev pub IsSame : Fraction → Fraction → Type 0
IsSame f g = pos g.by *ℤ f.number ≡ pos f.by *ℤ g.number

-- the fractions n / d that are between the bounds when they are multiplied by `over`
abbrev pub Multiples : Option Fraction → Option Fraction → ℕ → ℤ → ℕ → Type 0
Multiples lower upper over n d = IsWithin lower upper d (pos over *ℤ n)

-- some number is between the bounds
abbrev pub HasBetween : Option Fraction → Option Fraction → Type 0
HasBetween lower upper = (k : ℕ) × (y : ℤ) × (0 < k) × IsWithin lower upper k y

-- the multiple of the number by `over`, in lowest terms
pub record IsPicked (lower upper : Option Fraction) (over : ℕ) (f : Fraction) : Type 0 where
  pub pick : IsPick (Multiples lower upper over) f.number (f.by * over)
  pub within : IsWithin lower upper f.by f.number
  pub reduced : IsReduced f
  pub positive : 0 < f.by
  pub by : f.by ≤ 2 ^ 62
  pub number : unsigned_abs f.number ≤ 2 ^ 126 + 2 ^ 56
