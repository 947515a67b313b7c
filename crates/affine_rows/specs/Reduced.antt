-- Rational points of rows, rows divided by a common divisor, and combinations of two rows.
use Rattle.std.specs.Prelude.{◌≡◌, ℕ, zero, suc, ◌+◌, ◌%◌, ◌^◌, max, ℤ, pos, ◌+ℤ◌, ◌*ℤ◌, ◌≤ℤ◌, neg_ℤ, List, [], ◌∷◌, Bool, ◌&&◌, if◌then◌else◌, MatchBool, nat_eq, nat_lt, map, fold, unsigned_abs}
use Rattle.std.specs.Int.{int_div_euclid}
use Rattle.std.specs.Ordering.{int_eq}
use Rattle.std.specs.List.{list_all}
use Rattle.std.specs.List.Sorted.{IsStrictlyIncreasing}
use Rattle.affine_rows.specs.declared.row.Row.{Row}
use Rattle.affine_rows.specs.Rows.{Env, terms_at, IsRow}

-- ---- rational points: the numbers `at` over the denominator `over`

-- the row's value at a rational point, multiplied by the denominator
abbrev pub value_over : ℕ → Env → Row → ℤ
value_over over at r = pos over *ℤ r.constant +ℤ terms_at at r.terms

-- the value is 0, or at least 0
abbrev pub IsMet : Bool → ℤ → Type 0
IsMet equal value = MatchBool equal (value ≡ pos 0) (pos 0 ≤ℤ value)

-- what the row says of a rational point
abbrev pub HoldsOver : ℕ → Env → Row → Type 0
HoldsOver over at r = IsMet r.equal (value_over over at r)

-- ---- common divisors

-- the greatest number up to the first that divides both others, or 0
unfoldable pub greatest_to : ℕ → ℕ → ℕ → ℕ
greatest_to zero a b = 0
greatest_to (suc n) a b = if nat_eq (a % suc n) 0 && nat_eq (b % suc n) 0 then suc n else greatest_to n a b

-- the greatest common divisor of two numbers, 0 of two zeros
unfoldable pub greatest_divisor : ℕ → ℕ → ℕ
greatest_divisor a b = greatest_to (a + b) a b

-- the greatest common divisor of a number and all factors, 1 of zeros
unfoldable pub common_divisor : ℕ → List (ℕ × ℤ) → ℕ
common_divisor start terms = max 1 (fold (λ g t. greatest_divisor g (unsigned_abs t.1)) start terms)

-- a term's factor divided, rounded down
unfoldable pub divided_term : ℕ → ℕ × ℤ → ℕ × ℤ
divided_term by t = (t.0, int_div_euclid t.1 (pos by))

-- the constant and each factor divided, rounded down
unfoldable pub divided_row : ℕ → Row → Row
divided_row by r = record { constant = int_div_euclid r.constant (pos by); terms = map (divided_term by) r.terms; equal = r.equal }

-- the row divided by the greatest common divisor of all entries
unfoldable pub reduced_row : Row → Row
reduced_row r = divided_row (common_divisor (unsigned_abs r.constant) r.terms) r

-- the row divided by the greatest common divisor of the factors, the constant rounded down
unfoldable pub tightened_row : Row → Row
tightened_row r = divided_row (common_divisor 0 r.terms) r

-- ---- combinations

-- the sum of a variable's factors
abbrev pub factor_of : ℕ → List (ℕ × ℤ) → ℤ
factor_of var [] = pos 0
factor_of var (t ∷ ts) = if nat_eq t.0 var then t.1 +ℤ factor_of var ts else factor_of var ts

-- each variable is below the next
abbrev pub AreRising : List (ℕ × ℤ) → Type 0
AreRising ts = IsStrictlyIncreasing (map (λ t. t.0) ts)

-- a term in front, unless its factor is 0
unfoldable pub cons_term : ℕ → ℤ → List (ℕ × ℤ) → List (ℕ × ℤ)
cons_term var factor ts = if int_eq factor (pos 0) then ts else ((var, factor) ∷ ts)

-- a term added at its place in terms that rise
unfoldable pub add_term : ℕ → ℤ → List (ℕ × ℤ) → List (ℕ × ℤ)
add_term var factor [] = cons_term var factor []
add_term var factor (t ∷ ts) =
    if nat_lt var t.0 then cons_term var factor (t ∷ ts) else if nat_eq var t.0 then cons_term var (factor +ℤ t.1) ts else (t ∷ add_term var factor ts)

-- p times the left terms plus q times the right ones
unfoldable pub mixed_terms : ℤ → List (ℕ × ℤ) → ℤ → List (ℕ × ℤ) → List (ℕ × ℤ)
mixed_terms p [] q [] = []
mixed_terms p [] q (t ∷ ts) = cons_term t.0 (q *ℤ t.1) (mixed_terms p [] q ts)
mixed_terms p (t ∷ ts) q right = add_term t.0 (p *ℤ t.1) (mixed_terms p ts q right)

-- p times one row plus q times another
unfoldable pub mixed_row : ℤ → Row → ℤ → Row → Row
mixed_row p left q right = record {
  constant = p *ℤ left.constant +ℤ q *ℤ right.constant;
  terms = mixed_terms p left.terms q right.terms;
  equal = left.equal && right.equal;
}

-- the positive combination of a lower row and an upper row without the variable
unfoldable pub combination : ℕ → Row → Row → Row
combination var lower upper = mixed_row (neg_ℤ (factor_of var upper.terms)) lower (factor_of var lower.terms) upper

-- whether an entry does not pass 2^62 in absolute value
unfoldable pub fits_entry : ℤ → Bool
fits_entry z = nat_lt (unsigned_abs z) (2 ^ 62 + 1)

-- whether no entry of the row passes 2^62
unfoldable pub fits_row : Row → Bool
fits_row r = fits_entry r.constant && list_all (λ t. fits_entry t.1) r.terms

-- a row over some number of variables
abbrev pub IsSomeRow : Row → Type 0
IsSomeRow r = (width : ℕ) × IsRow width r
