-- Collected forms and their limits.
use Rattle.std.proofs.Common.{◌≡◌, ℕ, ◌*◌, ◌^◌, ◌≤◌, ℤ, pos, ◌*ℤ◌, ◌≤ℤ◌, Bool, true, false, not, cond, ◌&&◌, List, [], ◌∷◌, map, sum_by, arith, refl, sym, ap, ap₂, ◌∙◌, subst, unsigned_abs, All}
use Rattle.std.specs.List.{filter, list_all}
use Rattle.std.proofs.lemmas.Int.{unsigned_abs-mul}
use Rattle.std.specs.Ordering.{int_eq}
use Rattle.std.proofs.lemmas.Bool.Decides.{nat_tests, Decides-int_eq}
use Rattle.std.proofs.lemmas.List.Sums.{sum_by-cons}
use Rattle.std.proofs.lemmas.List.Elements.{All-nil, All-cons, All-head, All-tail}
use Rattle.affine_rows.specs.declared.quasi.Quasi.{Quasi, roll-Quasi, out-Quasi, out-roll-Quasi}
use Rattle.affine_rows.specs.declared.quasi.Floor.{Floor, roll-Floor, out-Floor, out-roll-Floor}
use Rattle.affine_rows.specs.Forms.{IsForm, IsFloor}
use Rattle.affine_rows.specs.Reduced.{fits_entry}
use Rattle.affine_rows.proofs.Combining.{fits_entry-is}
use Rattle.affine_rows.proofs.FormEquations.{IsForm-small, IsForm-floors, IsFloor-quotient, form_terms}
use Rattle.quasi_forms.specs.Alike.{same_floor, distinct}
use Rattle.quasi_forms.specs.Collected.{IsWide, with_times, times_of, collected_terms, collected_floors, scaled_terms, multiple_floors, scaled_floors, collected_form, floor_form}
use Rattle.quasi_forms.proofs.FormLimits.{constant_count-out, floor_made}

pub constant-collected : (c : ℤ) (ts : List (ℕ × ℤ)) (fs : List Floor) → (out-Quasi (collected_form c ts fs)).constant ≡ c
unfolding collected_form
constant-collected c ts fs = simp out-roll-Quasi refl

pub terms-collected : (c : ℤ) (ts : List (ℕ × ℤ)) (fs : List Floor) → (out-Quasi (collected_form c ts fs)).terms ≡ collected_terms ts
unfolding collected_form
terms-collected c ts fs = simp out-roll-Quasi refl

pub floors-collected : (c : ℤ) (ts : List (ℕ × ℤ)) (fs : List Floor) → (out-Quasi (collected_form c ts fs)).floors ≡ collected_floors fs
unfolding collected_form
floors-collected c ts fs = simp out-roll-Quasi refl

pub collected-made : (c z : ℤ) (ts us : List (ℕ × ℤ)) (fs gs : List Floor) → z ≡ c → us ≡ collected_terms ts → gs ≡ collected_floors fs → roll-Quasi (record { constant = z; terms = us; floors = gs }) ≡ collected_form c ts fs
unfolding collected_form
collected-made c z ts us fs gs e f g =
    ap (λ (x : ℤ). roll-Quasi (record { constant = x; terms = us; floors = gs })) e
    ∙ ap₂ (λ (xs : List (ℕ × ℤ)) (ys : List Floor). roll-Quasi (record { constant = c; terms = xs; floors = ys })) f g

-- ---- what does not fit is not within the limits

fits_not : (z : ℤ) → unsigned_abs z ≤ 2 ^ 62 → fits_entry z ≡ false → ⊥
fits_not z small wide = let yes = fits_entry-is z small in let no : true ≡ false = yes ∙ wide in cc

pub wide_constant : (c : ℤ) (ts : List (ℕ × ℤ)) (fs : List Floor) → false ≡ fits_entry c → IsForm (collected_form c ts fs) → ⊥
wide_constant c ts fs wide form =
    let q : Quasi = collected_form c ts fs in
    let small = (IsForm-small q form).constant in
    let same = ap unsigned_abs (constant-collected c ts fs) in
    fits_not c (omega (arith, small, constant_count-out q, same)) (sym wide)

true_both : (a b : Bool) → true ≡ a → b ≡ true → (a && b) ≡ true
true_both a b h k = ap₂ (λ (x y : Bool). x && y) (sym h) k

terms_fit : (ts : List (ℕ × ℤ)) → sum_by (λ t. unsigned_abs t.1) ts ≤ 2 ^ 62 → list_all (λ t. fits_entry t.1) ts ≡ true
terms_fit [] h = refl
terms_fit (t ∷ ts) h =
    let whole = sum_by-cons (λ (t : ℕ × ℤ). unsigned_abs t.1) t ts in
    true_both (fits_entry t.1) (list_all (λ t. fits_entry t.1) ts) (fits_entry-is t.1 (omega (arith, whole, h))) (terms_fit ts (omega (arith, whole, h)))

pub wide_terms : (c : ℤ) (ts : List (ℕ × ℤ)) (fs : List Floor) → list_all (λ t. fits_entry t.1) (collected_terms ts) ≡ false → IsForm (collected_form c ts fs) → ⊥
wide_terms c ts fs wide form =
    let small = form_terms (collected_form c ts fs) form in
    let same = ap (sum_by (λ (t : ℕ × ℤ). unsigned_abs t.1)) (terms-collected c ts fs) in
    let fit = terms_fit (collected_terms ts) (omega (arith, small, same)) in
    let no : true ≡ false = sym fit ∙ wide in cc

floors_fit : (fs : List Floor) → All IsFloor fs → list_all (λ f. fits_entry (out-Floor f).times) fs ≡ true
floors_fit [] all = refl
floors_fit (f ∷ fs) all =
    true_both (fits_entry (out-Floor f).times) (list_all (λ f. fits_entry (out-Floor f).times) fs) (fits_entry-is (out-Floor f).times (IsFloor-quotient f (All-head IsFloor f fs all)).entry) (floors_fit fs (All-tail IsFloor f fs all))

pub wide_floors : (c : ℤ) (ts : List (ℕ × ℤ)) (fs : List Floor) → list_all (λ f. fits_entry (out-Floor f).times) (collected_floors fs) ≡ false → IsForm (collected_form c ts fs) → ⊥
wide_floors c ts fs wide form =
    let all = subst (All IsFloor) (floors-collected c ts fs) (IsForm-floors (collected_form c ts fs) form) in
    let fit = floors_fit (collected_floors fs) all in
    let no : true ≡ false = sym fit ∙ wide in cc

-- ---- what fits is made of floors within their limits

wide-cond : (b : Bool) (f : Floor) (fs : List Floor) → IsWide f → All IsWide fs → All IsWide (cond b (f ∷ fs) fs)
wide-cond true f fs h all = All-cons IsWide f fs h all
wide-cond false f fs h all = all

wide-filter : (p : Floor → Bool) (fs : List Floor) → All IsWide fs → All IsWide (filter p fs)
wide-filter p [] all = all
wide-filter p (f ∷ fs) all = wide-cond (p f) f (filter p fs) (All-head IsWide f fs all) (wide-filter p fs (All-tail IsWide f fs all))

wide-distinct : (fs : List Floor) → All IsWide fs → All IsWide (distinct same_floor fs)
wide-distinct [] all = all
wide-distinct (f ∷ fs) all = All-cons IsWide f (filter (λ g. not (same_floor f g)) (distinct same_floor fs)) (All-head IsWide f fs all) (wide-filter (λ g. not (same_floor f g)) (distinct same_floor fs) (wide-distinct fs (All-tail IsWide f fs all)))

by-with : (z : ℤ) (f : Floor) → (out-Floor (with_times z f)).by ≡ (out-Floor f).by
by-with z f = simp out-roll-Floor refl

inner-with : (z : ℤ) (f : Floor) → (out-Floor (with_times z f)).inner ≡ (out-Floor f).inner
inner-with z f = simp out-roll-Floor refl

pub wide-with : (z : ℤ) (f : Floor) → IsWide f → IsWide (with_times z f)
wide-with z f h = record {
  positive = subst (λ (x : ℤ). pos 1 ≤ℤ x) (sym (by-with z f)) h.positive;
  inner = subst (λ (q : Quasi). IsForm q) (sym (inner-with z f)) h.inner;
}

wide-gathered : (all fs : List Floor) → All IsWide fs → All IsWide (map (λ f. with_times (times_of all f) f) fs)
wide-gathered all [] h = All-nil IsWide
wide-gathered all (f ∷ fs) h =
    All-cons IsWide (with_times (times_of all f) f) (map (λ f. with_times (times_of all f) f) fs) (wide-with (times_of all f) f (All-head IsWide f fs h)) (wide-gathered all fs (All-tail IsWide f fs h))

wide-collected : (fs : List Floor) → All IsWide fs → All IsWide (collected_floors fs)
unfolding collected_floors
wide-collected fs h = wide-filter _ _ (wide-gathered fs (distinct same_floor fs) (wide-distinct fs h))

pub split : (a b : Bool) → (a && b) ≡ true → (a ≡ true) × (b ≡ true)
split true b h = (refl, h)
split false b h = absurd (let no : false ≡ true = h in cc)

entry_from : (z : ℤ) → fits_entry z ≡ true → unsigned_abs z ≤ 2 ^ 62
unfolding fits_entry
entry_from z h = grind (arith, nat_tests)

floors_from : (fs : List Floor) → All IsWide fs → list_all (λ f. fits_entry (out-Floor f).times) fs ≡ true → All IsFloor fs
floors_from [] all fit = All-nil IsFloor
floors_from (f ∷ fs) all fit =
    let parts = split (fits_entry (out-Floor f).times) (list_all (λ f. fits_entry (out-Floor f).times) fs) fit in
    let here : IsWide f = All-head IsWide f fs all in
    All-cons IsFloor f fs (floor_made f here.inner (record { positive = here.positive; entry = entry_from (out-Floor f).times parts.0 })) (floors_from fs (All-tail IsWide f fs all) parts.1)

pub floors_collected : (fs : List Floor) → All IsWide fs → list_all (λ f. fits_entry (out-Floor f).times) (collected_floors fs) ≡ true → All IsFloor (collected_floors fs)
floors_collected fs all fit = floors_from (collected_floors fs) (wide-collected fs all) fit

-- ---- multiples of forms

pub scaled-size : (p : ℤ) (ts : List (ℕ × ℤ)) → sum_by (λ t. unsigned_abs t.1) (scaled_terms p ts) ≡ unsigned_abs p * sum_by (λ t. unsigned_abs t.1) ts
scaled-size p [] = omega arith
scaled-size p (t ∷ ts) =
    let whole = ap (λ (k : ℕ). unsigned_abs p * k) (sum_by-cons (λ (t : ℕ × ℤ). unsigned_abs t.1) t ts) in
    omega (arith, scaled-size p ts, whole, sum_by-cons (λ (t : ℕ × ℤ). unsigned_abs t.1) (t.0, p *ℤ t.1) (scaled_terms p ts), unsigned_abs-mul p t.1)

times-with : (z : ℤ) (f : Floor) → (out-Floor (with_times z f)).times ≡ z
times-with z f = simp out-roll-Floor refl

multiple-times : (p : ℤ) (fs : List Floor) → sum_by (λ f. unsigned_abs (out-Floor f).times) (multiple_floors p fs) ≡ unsigned_abs p * sum_by (λ f. unsigned_abs (out-Floor f).times) fs
multiple-times p [] = omega arith
multiple-times p (f ∷ fs) =
    let one = ap unsigned_abs (times-with (p *ℤ (out-Floor f).times) f) ∙ unsigned_abs-mul p (out-Floor f).times in
    let whole = ap (λ (k : ℕ). unsigned_abs p * k) (sum_by-cons (λ (f : Floor). unsigned_abs (out-Floor f).times) f fs) in
    omega (arith, multiple-times p fs, one, whole, sum_by-cons (λ (f : Floor). unsigned_abs (out-Floor f).times) (with_times (p *ℤ (out-Floor f).times) f) (multiple_floors p fs))

times_step : (p : ℤ) (fs : List Floor) (b : Bool) → int_eq p (pos 0) ≡ b → sum_by (λ f. unsigned_abs (out-Floor f).times) (cond b [] (multiple_floors p fs)) ≡ unsigned_abs p * sum_by (λ f. unsigned_abs (out-Floor f).times) fs
times_step p fs false e = multiple-times p fs
times_step p fs true e = let none = ap unsigned_abs ((Decides-int_eq p (pos 0)).0 e) in omega (arith, ap (λ (n : ℕ). n * sum_by (λ (f : Floor). unsigned_abs (out-Floor f).times) fs) none)

pub scaled-times : (p : ℤ) (fs : List Floor) → sum_by (λ f. unsigned_abs (out-Floor f).times) (scaled_floors p fs) ≡ unsigned_abs p * sum_by (λ f. unsigned_abs (out-Floor f).times) fs
scaled-times p fs = times_step p fs (int_eq p (pos 0)) refl

-- ---- one floor

pub floor_form-is : (a b : Quasi) (by : ℤ) (ts : List (ℕ × ℤ)) (fs : List Floor) → b ≡ a → ts ≡ [] → fs ≡ roll-Floor (record { times = pos 1; inner = b; by = by }) ∷ [] → roll-Quasi (record { constant = pos 0; terms = ts; floors = fs }) ≡ floor_form a by
unfolding floor_form
floor_form-is a b by ts fs e t f =
    ap₂ (λ (us : List (ℕ × ℤ)) (gs : List Floor). roll-Quasi (record { constant = pos 0; terms = us; floors = gs })) t
    (f ∙ ap (λ (q : Quasi). roll-Floor (record { times = pos 1; inner = q; by = by }) ∷ []) e)

pub one_floor : (q : Quasi) (by : ℤ) → IsForm q → pos 1 ≤ℤ by → All IsFloor (roll-Floor (record { times = pos 1; inner = q; by = by }) ∷ [])
one_floor q by h positive =
    All-cons IsFloor (roll-Floor (record { times = pos 1; inner = q; by = by })) [] (floor_made (roll-Floor (record { times = pos 1; inner = q; by = by })) (simp out-roll-Floor h) (simp out-roll-Floor (record { positive = positive; entry = omega arith }))) (All-nil IsFloor)
