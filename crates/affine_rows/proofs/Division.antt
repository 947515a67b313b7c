-- Rows that are divided: the points at which they hold, and their entries.
use Rattle.std.proofs.Common.{◌≡◌, ℕ, zero, suc, ◌+◌, ◌*◌, ◌/◌, ◌<◌, ◌≤◌, ℤ, pos, negsuc, ◌+ℤ◌, ◌*ℤ◌, ◌≤ℤ◌, List, [], ◌∷◌, Bool, true, false, arith, refl, sym, ap, ◌∙◌, subst, unsigned_abs, map, All}
use Rattle.std.specs.Prelude.{◌↔◌}
use Rattle.std.specs.Int.{int_div_euclid, ◌∣◌}
use Rattle.std.proofs.Math.Nat.{mul-div_cancel', div-mul-le_self, lt-div-mul-add, lt_of_mul-lt-mul_left, div-le_self}
use Rattle.std.proofs.lemmas.Int.{ints}
use Rattle.std.proofs.lemmas.List.Elements.{All-nil, All-cons, All-head, All-tail}
use Rattle.affine_rows.specs.declared.row.Row.{Row}
use Rattle.affine_rows.specs.Rows.{Env, terms_at, Holds, IsTerm, IsRow}
use Rattle.affine_rows.specs.Reduced.{value_over, IsMet, HoldsOver, divided_term, divided_row, reduced_row, tightened_row, common_divisor}
use Rattle.affine_rows.proofs.Divisors.{DividesFactors, common_divisor-divides}
use Rattle.wrap_words.proofs.Ring.{distrib, assoc, swap, nonneg, nonneg-cancel, zero-cancel}

-- ---- quotients

nonzero_part : (a b z : ℤ) → a *ℤ b ≡ z → 0 < unsigned_abs z → 0 < unsigned_abs b
nonzero_part a (pos zero) z e h = absurd (omega (arith, ints))
nonzero_part a (pos (suc n)) z e h = omega arith
nonzero_part a (negsuc n) z e h = omega arith

exact_negative : (g a k : ℕ) → 0 < g → suc a ≡ g * k → suc (a / g) ≡ k
exact_negative g a zero positive e = absurd (omega arith)
exact_negative g a (suc k) positive e =
    let low : a / g * g ≤ a = div-mul-le_self a g in
    let high : a < a / g * g + g = lt-div-mul-add positive in
    let below : a / g < suc k = lt_of_mul-lt-mul_left g (omega arith) in
    let above : k < suc (a / g) = lt_of_mul-lt-mul_left g (omega arith) in
    omega arith

pub exact_quotient : (g : ℕ) (z : ℤ) → 0 < g → g ∣ unsigned_abs z → pos g *ℤ int_div_euclid z (pos g) ≡ z
exact_quotient g (pos a) positive h = let e : g * (a / g) ≡ a = mul-div_cancel' g h in omega (arith, ints)
exact_quotient g (negsuc a) positive h =
    let e : g * (suc a / g) ≡ suc a = mul-div_cancel' g h in
    let q : suc (a / g) ≡ suc a / g = exact_negative g a (suc a / g) positive (sym e) in
    let p : g * suc (a / g) ≡ suc a = ap (λ (n : ℕ). g * n) q ∙ e in
    omega (arith, ints)

pub floor_low : (g : ℕ) (z : ℤ) → 0 < g → (pos g *ℤ int_div_euclid z (pos g)) ≤ℤ z
floor_low g (pos a) positive = let low : a / g * g ≤ a = div-mul-le_self a g in omega (arith, ints)
floor_low g (negsuc a) positive = let high : a < a / g * g + g = lt-div-mul-add positive in omega (arith, ints)

pub floor_high : (g : ℕ) (z : ℤ) → 0 < g → (z +ℤ pos 1) ≤ℤ (pos g *ℤ int_div_euclid z (pos g) +ℤ pos g)
floor_high g (pos a) positive = let high : a < a / g * g + g = lt-div-mul-add positive in omega (arith, ints)
floor_high g (negsuc a) positive = let low : a / g * g ≤ a = div-mul-le_self a g in omega (arith, ints)

quotient_small : (g : ℕ) (z : ℤ) → 0 < g → unsigned_abs (int_div_euclid z (pos g)) ≤ unsigned_abs z
quotient_small g (pos a) positive = let le : a / g ≤ a = div-le_self a g in omega arith
quotient_small g (negsuc a) positive = let le : a / g ≤ a = div-le_self a g in omega arith

pub quotient_nonzero : (g : ℕ) (z : ℤ) → pos g *ℤ int_div_euclid z (pos g) ≡ z → 0 < unsigned_abs z → 0 < unsigned_abs (int_div_euclid z (pos g))
quotient_nonzero g z e h = nonzero_part (pos g) (int_div_euclid z (pos g)) z e h

-- ---- values

pub terms_divided : (g : ℕ) (at : Env) (ts : List (ℕ × ℤ)) → 0 < g → DividesFactors g ts → pos g *ℤ terms_at at (map (divided_term g) ts) ≡ terms_at at ts
unfolding divided_term
terms_divided g at [] positive h = omega (arith, ints)
terms_divided g at (t ∷ ts) positive h =
    omega (
      arith,
      ints,
      distrib (pos g) (int_div_euclid t.1 (pos g) *ℤ at t.0) (terms_at at (map (divided_term g) ts)),
      assoc (pos g) (int_div_euclid t.1 (pos g)) (at t.0),
      ap (λ (z : ℤ). z *ℤ at t.0) (exact_quotient g t.1 positive h.0),
      terms_divided g at ts positive h.1,
    )

pub met_scaled : (g : ℕ) (e : Bool) (v w : ℤ) → 0 < g → pos g *ℤ v ≡ w → IsMet e v ↔ IsMet e w
met_scaled g true v w positive same = ((λ h. sym same ∙ (ap (λ (z : ℤ). pos g *ℤ z) h ∙ omega (arith, ints))), (λ h. zero-cancel g v positive (same ∙ h)))
met_scaled g false v w positive same = ((λ h. subst (λ (z : ℤ). pos 0 ≤ℤ z) same (nonneg g v h)), (λ h. nonneg-cancel g v positive (subst (λ (z : ℤ). pos 0 ≤ℤ z) (sym same) h)))

pub value_divided : (g over : ℕ) (at : Env) (r : Row) → 0 < g → g ∣ unsigned_abs r.constant → DividesFactors g r.terms → pos g *ℤ value_over over at (divided_row g r) ≡ value_over over at r
unfolding divided_row
value_divided g over at r positive c h =
    omega (
      arith,
      ints,
      distrib (pos g) (pos over *ℤ int_div_euclid r.constant (pos g)) (terms_at at (map (divided_term g) r.terms)),
      swap (pos g) (pos over) (int_div_euclid r.constant (pos g)),
      ap (λ (z : ℤ). pos over *ℤ z) (exact_quotient g r.constant positive c),
      terms_divided g at r.terms positive h,
    )

equal-divided : (g : ℕ) (r : Row) → (divided_row g r).equal ≡ r.equal
unfolding divided_row
equal-divided g r = refl

-- the reduced row holds at the same rational points
pub reduced_holds : (r : Row) (over : ℕ) (at : Env) → HoldsOver over at (reduced_row r) ↔ HoldsOver over at r
unfolding reduced_row
reduced_holds r over at =
    let g = common_divisor (unsigned_abs r.constant) r.terms in
    let d = common_divisor-divides (unsigned_abs r.constant) r.terms in
    rw (equal-divided g r) (met_scaled g r.equal (value_over over at (divided_row g r)) (value_over over at r) d.0 (value_divided g over at r d.0 d.1 d.2))

floor_met : (g : ℕ) (c q t z : ℤ) → 0 < g → (pos g *ℤ q) ≤ℤ c → (c +ℤ pos 1) ≤ℤ (pos g *ℤ q +ℤ pos g) → z ≡ q +ℤ t → pos 0 ≤ℤ z ↔ pos 0 ≤ℤ (c +ℤ pos g *ℤ t)
floor_met g c q t (pos n) positive low high e = (
  (λ h. let f = nonneg g (pos n) h in omega (arith, ints, distrib (pos g) q t, ap (λ (x : ℤ). pos g *ℤ x) e)),
  (λ h. omega (arith, ints)),
)
floor_met g c q t (negsuc n) positive low high e = (
  (λ h. absurd (omega (arith, ints))),
  (λ h. absurd (let f = nonneg g (pos n) (omega (arith, ints)) in omega (arith, ints, distrib (pos g) q t, ap (λ (x : ℤ). pos g *ℤ x) e))),
)

row_tightened : (g : ℕ) (at : Env) (r : Row) → 0 < g → r.equal ≡ false → DividesFactors g r.terms → Holds at (divided_row g r) ↔ Holds at r
unfolding divided_row
row_tightened g at r positive inequality h =
    let same = floor_met g r.constant (int_div_euclid r.constant (pos g)) (terms_at at (map (divided_term g) r.terms)) (int_div_euclid r.constant (pos g) +ℤ terms_at at (map (divided_term g) r.terms)) positive (floor_low g r.constant positive) (floor_high g r.constant positive) refl in
    rw (inequality, ← terms_divided g at r.terms positive h) same

-- the tightened row holds at the same integer points
pub tightened_holds : (r : Row) → r.equal ≡ false → (at : Env) → Holds at (tightened_row r) ↔ Holds at r
unfolding tightened_row
tightened_holds r inequality at =
    let d = common_divisor-divides 0 r.terms in
    row_tightened (common_divisor 0 r.terms) at r d.0 inequality d.2

-- ---- entries

pub variables-divided : (g : ℕ) (ts : List (ℕ × ℤ)) → map (λ t. t.0) (map (divided_term g) ts) ≡ map (λ t. t.0) ts
unfolding divided_term
variables-divided g [] = refl
variables-divided g (t ∷ ts) = ap (λ (vs : List ℕ). t.0 ∷ vs) (variables-divided g ts)

terms_are : (width g : ℕ) (ts : List (ℕ × ℤ)) → 0 < g → DividesFactors g ts → All (IsTerm width) ts → All (IsTerm width) (map (divided_term g) ts)
unfolding divided_term
terms_are width g [] positive h all = All-nil (IsTerm width)
terms_are width g (t ∷ ts) positive h all =
    let here : IsTerm width t = All-head (IsTerm width) t ts all in
    let small = quotient_small g t.1 positive in
    All-cons (IsTerm width) (t.0, int_div_euclid t.1 (pos g)) (map (divided_term g) ts)
    (record { var = here.var; entry = omega (arith, small, here.entry); nonzero = quotient_nonzero g t.1 (exact_quotient g t.1 positive h.0) here.nonzero })
    (terms_are width g ts positive h.1 (All-tail (IsTerm width) t ts all))

pub divided_IsRow : (width g : ℕ) (r : Row) → 0 < g → DividesFactors g r.terms → IsRow width r → IsRow width (divided_row g r)
unfolding divided_row
divided_IsRow width g r positive h is = record {
  constant = let small = quotient_small g r.constant positive in omega (arith, small, is.constant);
  terms = terms_are width g r.terms positive h is.terms;
  rising = rw (variables-divided g r.terms) is.rising;
}

pub reduced_IsRow : (width : ℕ) (r : Row) → IsRow width r → IsRow width (reduced_row r)
unfolding reduced_row
reduced_IsRow width r is = let d = common_divisor-divides (unsigned_abs r.constant) r.terms in divided_IsRow width (common_divisor (unsigned_abs r.constant) r.terms) r d.0 d.2 is

pub tightened_IsRow : (width : ℕ) (r : Row) → IsRow width r → IsRow width (tightened_row r)
unfolding tightened_row
tightened_IsRow width r is = let d = common_divisor-divides 0 r.terms in divided_IsRow width (common_divisor 0 r.terms) r d.0 d.2 is

-- ---- as the code makes them

pub divided_term-from : (by : ℕ) (t : ℕ × ℤ) (f : ℤ) → f ≡ int_div_euclid t.1 (pos by) → (t.0, f) ≡ divided_term by t
unfolding divided_term
divided_term-from by t f e = ap (λ (z : ℤ). (t.0, z)) e

pub divided_row-from : (by : ℕ) (r : Row) (c : ℤ) (ts : List (ℕ × ℤ)) → c ≡ int_div_euclid r.constant (pos by) → ts ≡ map (divided_term by) r.terms → record { constant = c; terms = ts; equal = r.equal } ≡ divided_row by r
unfolding divided_row
divided_row-from by r c ts e f = cc

pub reduced_row-from : (r s : Row) (by : ℕ) → s ≡ divided_row by r → by ≡ common_divisor (unsigned_abs r.constant) r.terms → s ≡ reduced_row r
unfolding reduced_row
reduced_row-from r s by e f = e ∙ ap (λ (n : ℕ). divided_row n r) f

pub tightened_row-from : (r s : Row) (by : ℕ) → s ≡ divided_row by r → by ≡ common_divisor 0 r.terms → s ≡ tightened_row r
unfolding tightened_row
tightened_row-from r s by e f = e ∙ ap (λ (n : ℕ). divided_row n r) f

pub reduced_points : (r s : Row) → s ≡ reduced_row r → (over : ℕ) (at : Env) → HoldsOver over at s ↔ HoldsOver over at r
reduced_points r s e over at = subst (λ (x : Row). HoldsOver over at x ↔ HoldsOver over at r) (sym e) (reduced_holds r over at)

pub tightened_points : (r s : Row) → s ≡ tightened_row r → r.equal ≡ false → (at : Env) → Holds at s ↔ Holds at r
tightened_points r s e inequality at = subst (λ (x : Row). Holds at x ↔ Holds at r) (sym e) (tightened_holds r inequality at)
