-- Combinations of two rows: their factors, their points and their entries.
use Rattle.std.proofs.Common.{◌≡◌, ◌≢◌, ℕ, suc, ◌+◌, ◌<◌, ◌≤◌, ◌^◌, ℤ, pos, negsuc, ◌+ℤ◌, ◌*ℤ◌, neg_ℤ, List, [], ◌∷◌, Bool, true, false, cond, ◌&&◌, nat_eq, length, map, drop, get_or, add-one, drop-cons, eq-eqb, arith, refl, sym, ap, ◌∙◌, subst, unsigned_abs, All}
use Rattle.std.specs.Prelude.{◌<ℤ◌}
use Rattle.std.specs.List.{list_all}
use Rattle.std.specs.Int.{int_div_euclid}
use Rattle.std.proofs.lemmas.Int.{ints}
use Rattle.std.proofs.lemmas.Bool.Decides.{nat_tests}
use Rattle.std.proofs.lemmas.List.Folds.{list_all-map}
use Rattle.std.proofs.lemmas.List.Elements.{All-nil, All-cons, All-head, All-tail}
use Rattle.affine_rows.specs.declared.row.Row.{Row}
use Rattle.affine_rows.specs.Rows.{Env, terms_at, IsEntry, IsTerm, IsRow}
use Rattle.affine_rows.specs.Reduced.{AreRising, value_over, IsMet, HoldsOver, common_divisor, divided_term, divided_row, reduced_row, factor_of, mixed_terms, mixed_row, combination, fits_entry, fits_row}
use Rattle.affine_rows.proofs.Divisors.{DividesFactors, common_divisor-divides}
use Rattle.affine_rows.proofs.Division.{reduced_holds, terms_divided, exact_quotient, quotient_nonzero, variables-divided}
use Rattle.affine_rows.proofs.Mixing.{Above, Rising, Rising-from, increasing, AreWithin, mixed_within, mixed_rising, mixed_at}
use Rattle.wrap_words.proofs.Ring.{distrib, swap, comm, neg_right, nonneg, zero-cancel}

-- ---- the factor of a variable

-- the point with 1 at a variable and 0 elsewhere
abbrev pub unit : ℕ → Env
unit var other = cond (nat_eq other var) (pos 1) (pos 0)

factor_step : (same : Bool) (f g : ℤ) → cond same (f +ℤ g) g ≡ f *ℤ cond same (pos 1) (pos 0) +ℤ g
factor_step true f g = omega (arith, ints)
factor_step false f g = omega (arith, ints)

-- a factor is the value at that point
pub factor_of-at : (var : ℕ) (ts : List (ℕ × ℤ)) → factor_of var ts ≡ terms_at (unit var) ts
factor_of-at var [] = refl
factor_of-at var (t ∷ ts) = factor_step (nat_eq t.0 var) t.1 (factor_of var ts) ∙ ap (λ (z : ℤ). t.1 *ℤ unit var t.0 +ℤ z) (factor_of-at var ts)

not_same : (a var low : ℕ) → var ≤ low → low < a → nat_eq a var ≡ false
not_same a var low le lt = grind (arith, nat_tests)

pub factor_of-above : (ts : List (ℕ × ℤ)) (var low : ℕ) → var ≤ low → Above low ts → factor_of var ts ≡ pos 0
factor_of-above [] var low le above = refl
factor_of-above (t ∷ ts) var low le above = rw (not_same t.0 var low le above.0) (factor_of-above ts var low le above.1)

-- the factor where its variable is found
pub factor_found : (ts : List (ℕ × ℤ)) (i var : ℕ) → i < length ts → Rising (drop i ts) → (get_or ts i (0, pos 0)).0 ≡ var → factor_of var (drop i ts) ≡ (get_or ts i (0, pos 0)).1
factor_found ts i var within rising same =
    let split : drop i ts ≡ get_or ts i (0, pos 0) ∷ drop (suc i) ts = drop-cons ts i (0, pos 0) within in
    let parts = subst Rising split rising in
    let test : nat_eq (get_or ts i (0, pos 0)).0 var ≡ true = eq-eqb (get_or ts i (0, pos 0)).0 var same in
    let none : factor_of var (drop (suc i) ts) ≡ pos 0 = factor_of-above (drop (suc i) ts) var (get_or ts i (0, pos 0)).0 (omega (arith, same)) parts.0 in
    rw (split, test, none) (omega (arith, ints))

-- and where it is not
pub factor_later : (ts : List (ℕ × ℤ)) (i var : ℕ) → i < length ts → Rising (drop i ts) → (get_or ts i (0, pos 0)).0 ≢ var → factor_of var (drop i ts) ≡ factor_of var (drop (i + 1) ts)
factor_later ts i var within rising apart =
    let split : drop i ts ≡ get_or ts i (0, pos 0) ∷ drop (suc i) ts = drop-cons ts i (0, pos 0) within in
    let test : nat_eq (get_or ts i (0, pos 0)).0 var ≡ false = grind (arith, nat_tests) in
    rw add-one (rw (split, test) refl)

-- ---- the value of a combination

pub mixed_value : (over : ℕ) (at : Env) (p : ℤ) (left : Row) (q : ℤ) (right : Row) → value_over over at (mixed_row p left q right) ≡ p *ℤ value_over over at left +ℤ q *ℤ value_over over at right
unfolding mixed_row
mixed_value over at p left q right =
    omega (
      arith,
      ints,
      mixed_at at p left.terms q right.terms,
      distrib (pos over) (p *ℤ left.constant) (q *ℤ right.constant),
      swap (pos over) p left.constant,
      swap (pos over) q right.constant,
      distrib p (pos over *ℤ left.constant) (terms_at at left.terms),
      distrib q (pos over *ℤ right.constant) (terms_at at right.terms),
    )

pub equal-mixed : (p : ℤ) (left : Row) (q : ℤ) (right : Row) → (mixed_row p left q right).equal ≡ (left.equal && right.equal)
unfolding mixed_row
equal-mixed p left q right = refl

-- a positive sum of what both rows say
both_met : (e f : Bool) (a b : ℕ) (v w : ℤ) → IsMet e v → IsMet f w → IsMet (e && f) (pos a *ℤ v +ℤ pos b *ℤ w)
both_met true true a b v w h k = omega (arith, ints, ap (λ (z : ℤ). pos a *ℤ z) h, ap (λ (z : ℤ). pos b *ℤ z) k)
both_met true false a b v w h k = omega (arith, ints, ap (λ (z : ℤ). pos a *ℤ z) h, nonneg b w k)
both_met false true a b v w h k = omega (arith, ints, nonneg a v h, ap (λ (z : ℤ). pos b *ℤ z) k)
both_met false false a b v w h k = omega (arith, ints, nonneg a v h, nonneg b w k)

-- a positive integer is a natural number
pub record Positive (z : ℤ) : Type 0 where
  pub number : ℕ
  pub is : z ≡ pos number
  pub positive : 0 < number

pub positive_is : (z : ℤ) → pos 0 <ℤ z → Positive z
positive_is (pos n) h = record { number = n; is = refl; positive = omega (arith, ints) }
positive_is (negsuc n) h = absurd (omega (arith, ints))

mixed_holds : (over : ℕ) (at : Env) (p : ℤ) (left : Row) (q : ℤ) (right : Row) → pos 0 <ℤ p → pos 0 <ℤ q → HoldsOver over at left → HoldsOver over at right → HoldsOver over at (mixed_row p left q right)
mixed_holds over at p left q right hp hq h k =
    let np = positive_is p hp in
    let nq = positive_is q hq in
    let met = both_met left.equal right.equal np.number nq.number (value_over over at left) (value_over over at right) h k in
    let value : value_over over at (mixed_row p left q right) ≡ pos np.number *ℤ value_over over at left +ℤ pos nq.number *ℤ value_over over at right = mixed_value over at p left q right ∙ (ap (λ (z : ℤ). z *ℤ value_over over at left +ℤ q *ℤ value_over over at right) np.is ∙ ap (λ (z : ℤ). pos np.number *ℤ value_over over at left +ℤ z *ℤ value_over over at right) nq.is) in
    rw (equal-mixed p left q right) (subst (IsMet (left.equal && right.equal)) (sym value) met)

pub combination_holds : (var : ℕ) (lower upper row : Row) → pos 0 <ℤ factor_of var lower.terms → factor_of var upper.terms <ℤ pos 0 → row ≡ reduced_row (combination var lower upper) →
    (over : ℕ) (at : Env) → HoldsOver over at lower → HoldsOver over at upper → HoldsOver over at row
unfolding combination
combination_holds var lower upper row below above is over at h k =
    subst (HoldsOver over at) (sym is)
    ((reduced_holds (combination var lower upper) over at).1
    (mixed_holds over at (neg_ℤ (factor_of var upper.terms)) lower (factor_of var lower.terms) upper (omega (arith, ints)) below h k))

-- ---- the variable goes out

terms-divided_row : (g : ℕ) (r : Row) → (divided_row g r).terms ≡ map (divided_term g) r.terms
unfolding divided_row
terms-divided_row g r = refl

pub terms-mixed : (p : ℤ) (left : Row) (q : ℤ) (right : Row) → (mixed_row p left q right).terms ≡ mixed_terms p left.terms q right.terms
unfolding mixed_row
terms-mixed p left q right = refl

cancels : (a b : ℤ) → neg_ℤ b *ℤ a +ℤ a *ℤ b ≡ pos 0
cancels a b = omega (arith, ints, comm (neg_ℤ b) a, neg_right a b)

factor-combination : (var : ℕ) (lower upper : Row) → factor_of var (combination var lower upper).terms ≡ pos 0
unfolding combination
factor-combination var lower upper =
    let l = factor_of var lower.terms in
    let u = factor_of var upper.terms in
    ap (factor_of var) (terms-mixed (neg_ℤ u) lower l upper)
    ∙ (factor_of-at var (mixed_terms (neg_ℤ u) lower.terms l upper.terms)
    ∙ (mixed_at (unit var) (neg_ℤ u) lower.terms l upper.terms
    ∙ (ap (λ (z : ℤ). neg_ℤ u *ℤ z +ℤ l *ℤ terms_at (unit var) upper.terms) (sym (factor_of-at var lower.terms))
    ∙ (ap (λ (z : ℤ). neg_ℤ u *ℤ l +ℤ l *ℤ z) (sym (factor_of-at var upper.terms)) ∙ cancels l u))))

pub factor-reduced : (var : ℕ) (r : Row) → factor_of var r.terms ≡ pos 0 → factor_of var (reduced_row r).terms ≡ pos 0
unfolding reduced_row
factor-reduced var r none =
    let g = common_divisor (unsigned_abs r.constant) r.terms in
    let d = common_divisor-divides (unsigned_abs r.constant) r.terms in
    ap (factor_of var) (terms-divided_row g r)
    ∙ (factor_of-at var (map (divided_term g) r.terms) ∙ zero-cancel g (terms_at (unit var) (map (divided_term g) r.terms)) d.0 (terms_divided g (unit var) r.terms d.0 d.2 ∙ (sym (factor_of-at var r.terms) ∙ none)))

pub combination_without : (var : ℕ) (lower upper row : Row) → row ≡ reduced_row (combination var lower upper) → factor_of var row.terms ≡ pos 0
combination_without var lower upper row is = ap (λ (r : Row). factor_of var r.terms) is ∙ factor-reduced var (combination var lower upper) (factor-combination var lower upper)

-- ---- entries

within_from : (width : ℕ) (ts : List (ℕ × ℤ)) → All (IsTerm width) ts → AreWithin width ts
within_from width [] all = tt
within_from width (t ∷ ts) all = let here : IsTerm width t = All-head (IsTerm width) t ts all in ((here.var, here.nonzero), within_from width ts (All-tail (IsTerm width) t ts all))

entry_from : (z : ℤ) → fits_entry z ≡ true → IsEntry z
unfolding fits_entry
entry_from z h = grind (arith, nat_tests, h)

both_true : (a b : Bool) → (a && b) ≡ true → (a ≡ true) × (b ≡ true)
both_true true b h = (refl, h)
both_true false b h = absurd (let no : false ≡ true = h in cc)

terms_from : (width g : ℕ) (ts : List (ℕ × ℤ)) → 0 < g → DividesFactors g ts → AreWithin width ts → list_all (λ t. fits_entry t.1) (map (divided_term g) ts) ≡ true → All (IsTerm width) (map (divided_term g) ts)
unfolding divided_term
terms_from width g [] positive h within fits = All-nil (IsTerm width)
terms_from width g (t ∷ ts) positive h within fits =
    let parts = both_true (fits_entry (int_div_euclid t.1 (pos g))) (list_all (λ t. fits_entry t.1) (map (divided_term g) ts)) fits in
    All-cons (IsTerm width) (t.0, int_div_euclid t.1 (pos g)) (map (divided_term g) ts)
    (record { var = within.0.0; entry = entry_from (int_div_euclid t.1 (pos g)) parts.0; nonzero = quotient_nonzero g t.1 (exact_quotient g t.1 positive h.0) within.0.1 })
    (terms_from width g ts positive h.1 within.1 parts.1)

row_from : (width g : ℕ) (r : Row) → 0 < g → DividesFactors g r.terms → AreWithin width r.terms → AreRising r.terms → fits_row (divided_row g r) ≡ true → IsRow width (divided_row g r)
unfolding divided_row fits_row
row_from width g r positive h within rising fits =
    let parts = both_true (fits_entry (int_div_euclid r.constant (pos g))) (list_all (λ t. fits_entry t.1) (map (divided_term g) r.terms)) fits in
    record {
      constant = entry_from (int_div_euclid r.constant (pos g)) parts.0;
      terms = terms_from width g r.terms positive h within parts.1;
      rising = rw (variables-divided g r.terms) rising;
    }

pub mixed_IsRow : (width : ℕ) (p : ℤ) (left : Row) (q : ℤ) (right : Row) → IsRow width left → IsRow width right → fits_row (reduced_row (mixed_row p left q right)) ≡ true → IsRow width (reduced_row (mixed_row p left q right))
unfolding reduced_row
mixed_IsRow width p left q right hl hr fits =
    let r : Row = mixed_row p left q right in
    let g = common_divisor (unsigned_abs r.constant) r.terms in
    let d = common_divisor-divides (unsigned_abs r.constant) r.terms in
    row_from width g r d.0 d.2
    (subst (AreWithin width) (sym (terms-mixed p left q right)) (mixed_within width p left.terms q right.terms (within_from width left.terms hl.terms) (within_from width right.terms hr.terms)))
    (subst AreRising (sym (terms-mixed p left q right)) (increasing (mixed_terms p left.terms q right.terms) (mixed_rising p left.terms q right.terms (Rising-from right.terms hr.rising))))
    fits

pub combination_IsRow : (width var : ℕ) (lower upper row : Row) → row ≡ reduced_row (combination var lower upper) → fits_row (reduced_row (combination var lower upper)) ≡ true → IsRow width lower → IsRow width upper → IsRow width row
unfolding combination
combination_IsRow width var lower upper row is fits hl hr = subst (IsRow width) (sym is) (mixed_IsRow width (neg_ℤ (factor_of var upper.terms)) lower (factor_of var lower.terms) upper hl hr fits)

-- a factor of a row is an entry
factor_one : (ts : List (ℕ × ℤ)) (t : ℕ × ℤ) (var : ℕ) (same : Bool) → nat_eq t.0 var ≡ same → Above t.0 ts → IsEntry t.1 → IsEntry (factor_of var ts) → IsEntry (cond same (t.1 +ℤ factor_of var ts) (factor_of var ts))
factor_one ts t var true e above here rest =
    let none : factor_of var ts ≡ pos 0 = factor_of-above ts var t.0 (grind (arith, nat_tests, e)) above in
    subst IsEntry (let s : t.1 ≡ t.1 +ℤ factor_of var ts = omega (arith, ints, none) in s) here
factor_one ts t var false e above here rest = rest

factor_small : (width : ℕ) (ts : List (ℕ × ℤ)) (var : ℕ) → Rising ts → All (IsTerm width) ts → IsEntry (factor_of var ts)
factor_small width [] var rising all = omega arith
factor_small width (t ∷ ts) var rising all =
    let here : IsTerm width t = All-head (IsTerm width) t ts all in
    factor_one ts t var (nat_eq t.0 var) refl rising.0 here.entry (factor_small width ts var rising.1 (All-tail (IsTerm width) t ts all))

pub factor_entry : (width var : ℕ) (r : Row) → IsRow width r → IsEntry (factor_of var r.terms)
factor_entry width var r is = factor_small width r.terms var (Rising-from r.terms is.rising) is.terms

-- ---- as the code makes them

pub fits_entry-is : (z : ℤ) → unsigned_abs z ≤ 2 ^ 62 → true ≡ fits_entry z
unfolding fits_entry
fits_entry-is z h = grind (arith, nat_tests)

pub fits_entry-not : (z : ℤ) → 2 ^ 62 < unsigned_abs z → false ≡ fits_entry z
unfolding fits_entry
fits_entry-not z h = grind (arith, nat_tests)

pub factor-divided_term : (by : ℕ) (t : ℕ × ℤ) → (divided_term by t).1 ≡ int_div_euclid t.1 (pos by)
unfolding divided_term
factor-divided_term by t = refl

-- the sum's entries divided, as one row
pub reduced_sum-is : (p : ℤ) (left : Row) (q : ℤ) (right : Row) (k : ℤ) (by : ℕ) (c : ℤ) (ts wide : List (ℕ × ℤ)) → k ≡ p *ℤ left.constant +ℤ q *ℤ right.constant → wide ≡ mixed_terms p left.terms q right.terms →
    by ≡ common_divisor (unsigned_abs k) wide → c ≡ int_div_euclid k (pos by) → ts ≡ map (divided_term by) wide → record { constant = c; terms = ts; equal = left.equal && right.equal } ≡ reduced_row (mixed_row p left q right)
unfolding reduced_row divided_row mixed_row
reduced_sum-is p left q right k by c ts wide hk hw hb hc ht =
    let b : by ≡ common_divisor (unsigned_abs (p *ℤ left.constant +ℤ q *ℤ right.constant)) (mixed_terms p left.terms q right.terms) = hb ∙ (ap (λ (z : ℤ). common_divisor (unsigned_abs z) wide) hk ∙ ap (λ (us : List (ℕ × ℤ)). common_divisor (unsigned_abs (p *ℤ left.constant +ℤ q *ℤ right.constant)) us) hw) in
    let d : c ≡ int_div_euclid (p *ℤ left.constant +ℤ q *ℤ right.constant) (pos by) = hc ∙ ap (λ (z : ℤ). int_div_euclid z (pos by)) hk in
    let t : ts ≡ map (divided_term by) (mixed_terms p left.terms q right.terms) = ht ∙ ap (map (divided_term by)) hw in
    ap (λ (z : ℤ). record { constant = z; terms = ts; equal = left.equal && right.equal }) d
    ∙ (ap (λ (us : List (ℕ × ℤ)). record { constant = int_div_euclid (p *ℤ left.constant +ℤ q *ℤ right.constant) (pos by); terms = us; equal = left.equal && right.equal }) t
    ∙ ap (λ (n : ℕ). record { constant = int_div_euclid (p *ℤ left.constant +ℤ q *ℤ right.constant) (pos n); terms = map (divided_term n) (mixed_terms p left.terms q right.terms); equal = left.equal && right.equal }) b)

-- whether they fit
pub reduced_sum-fits : (p : ℤ) (left : Row) (q : ℤ) (right : Row) (k : ℤ) (by : ℕ) (wide : List (ℕ × ℤ)) (a b : Bool) → k ≡ p *ℤ left.constant +ℤ q *ℤ right.constant → wide ≡ mixed_terms p left.terms q right.terms →
    by ≡ common_divisor (unsigned_abs k) wide → fits_entry (int_div_euclid k (pos by)) ≡ a → list_all (λ t. fits_entry (divided_term by t).1) wide ≡ b → fits_row (reduced_row (mixed_row p left q right)) ≡ (a && b)
unfolding fits_row
reduced_sum-fits p left q right k by wide a b hk hw hb ha hc =
    ap fits_row (sym (reduced_sum-is p left q right k by (int_div_euclid k (pos by)) (map (divided_term by) wide) wide hk hw hb refl refl))
    ∙ (ap (λ (x : Bool). x && list_all (λ t. fits_entry t.1) (map (divided_term by) wide)) ha ∙ ap (λ (x : Bool). a && x) (list_all-map (λ t. fits_entry t.1) (divided_term by) wide ∙ hc))

pub and_false : (a : Bool) → (a && false) ≡ false
and_false true = refl
and_false false = refl

pub combination-is : (var : ℕ) (lower upper : Row) (p q : ℤ) → p ≡ neg_ℤ (factor_of var upper.terms) → q ≡ factor_of var lower.terms → mixed_row p lower q upper ≡ combination var lower upper
unfolding combination
combination-is var lower upper p q hp hq = ap (λ (z : ℤ). mixed_row z lower q upper) hp ∙ ap (λ (z : ℤ). mixed_row (neg_ℤ (factor_of var upper.terms)) lower z upper) hq

pub entry-negated : (z : ℤ) → IsEntry z → IsEntry (neg_ℤ z)
entry-negated z h = omega (arith, ints)
