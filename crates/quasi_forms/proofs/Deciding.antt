-- The tests of limits hold where the limits are kept.
use Rattle.std.specs.Prelude.{◌≡◌, ℕ, ◌^◌, ℤ, pos, ◌≤ℤ◌, int_le, Bool, true, false, ◌&&◌, nat_le, List, [], ◌∷◌, map, flat_map, sum_by, unsigned_abs, All}
use Rattle.std.specs.List.{list_all, AllByRecursion}
use Rattle.std.proofs.Common.{refl, sym, ap, ◌∙◌, subst, arith}
use Rattle.std.proofs.lemmas.Int.{ints}
use Rattle.std.proofs.lemmas.Bool.{leb-true, le-leb}
use Rattle.std.proofs.lemmas.List.Elements.{All-nil, All-cons, All-head, All-tail}
use Rattle.std.proofs.lemmas.List.Folds.{list_all-append}
use Rattle.affine_rows.specs.declared.quasi.Quasi.{Quasi, Quasi-F, roll-Quasi, out-Quasi, out-roll-Quasi, ind-Quasi}
use Rattle.affine_rows.specs.declared.quasi.Floor.{Floor, Floor-F, roll-Floor, out-Floor, out-roll-Floor}
use Rattle.affine_rows.specs.Forms.{sum_count, constant_count, IsSmall, IsQuotient, IsForm, IsFloor}
use Rattle.affine_rows.proofs.FormEquations.{IsForm-small, IsForm-floors, IsFloor-inner, IsFloor-quotient}
use Rattle.quasi_forms.specs.Collected.{put_form}
use Rattle.quasi_forms.specs.Limits.{floors_in, floors_within, floor_count, IsWithin}
use Rattle.quasi_forms.specs.Placed.{PutsInner, PutsWithin}
use Rattle.quasi_forms.proofs.FormLimits.{floors_in-out, floors_within-out, form_made, floor_made}
use Rattle.quasi_forms.specs.Fits.{is_small, is_small_floor, fits_form, fits_within, fits}
use Rattle.quasi_forms.proofs.Likeness.{both as parts_of, and_true as both}

first_of_both : (p q : Bool) → (p && q) ≡ true → p ≡ true
first_of_both p q h = (parts_of p q h).0

second_of_both : (p q : Bool) → (p && q) ≡ true → q ≡ true
second_of_both p q h = (parts_of p q h).1

not_so : (b : Bool) → (b ≡ true → ⊥) → b ≡ false
not_so true h = absurd (h refl)
not_so false h = refl

at_least : (a b : ℤ) → int_le a b ≡ true → a ≤ℤ b
at_least a b h = search (arith, ints, h)

reaches : (a b : ℤ) → a ≤ℤ b → int_le a b ≡ true
reaches a b h = search (arith, ints, h)

abbrev times_of : Quasi → ℕ
times_of q = sum_by (λ f. unsigned_abs (out-Floor f).times) (out-Quasi q).floors

small_made : (q : Quasi) → is_small q ≡ true → IsSmall q
small_made q h =
    let later = second_of_both (nat_le (sum_count q) (2 ^ 62)) (nat_le (constant_count q) (2 ^ 62) && nat_le (times_of q) (2 ^ 63)) h in
    record {
      sum = leb-true (sum_count q) (2 ^ 62) (first_of_both (nat_le (sum_count q) (2 ^ 62)) (nat_le (constant_count q) (2 ^ 62) && nat_le (times_of q) (2 ^ 63)) h);
      constant = leb-true (constant_count q) (2 ^ 62) (first_of_both (nat_le (constant_count q) (2 ^ 62)) (nat_le (times_of q) (2 ^ 63)) later);
      factors = leb-true (times_of q) (2 ^ 63) (second_of_both (nat_le (constant_count q) (2 ^ 62)) (nat_le (times_of q) (2 ^ 63)) later);
    }

small_seen : (q : Quasi) → IsSmall q → is_small q ≡ true
small_seen q s = both (nat_le (sum_count q) (2 ^ 62)) (nat_le (constant_count q) (2 ^ 62) && nat_le (times_of q) (2 ^ 63)) (le-leb (sum_count q) (2 ^ 62) s.sum)
    (both (nat_le (constant_count q) (2 ^ 62)) (nat_le (times_of q) (2 ^ 63)) (le-leb (constant_count q) (2 ^ 62) s.constant) (le-leb (times_of q) (2 ^ 63) s.factors))

abbrev AllSmall : List Floor → Type 0
AllSmall fs = list_all is_small_floor fs ≡ true

-- ---- what the tests say

abbrev FloorMade : Floor → Type 0
FloorMade f = AllSmall (floors_within f) → IsFloor f

abbrev FormMade : Quasi → Type 0
FormMade q = is_small q ≡ true → AllSmall (floors_in q) → IsForm q

floors_made : (fs : List ((f : Floor) × FloorMade f)) → AllSmall (flat_map floors_within (map (λ e. e.0) fs)) → All IsFloor (map (λ e. e.0) fs)
floors_made [] h = All-nil IsFloor
floors_made (e ∷ fs) h =
    let rest : List Floor = flat_map floors_within (map (λ e. e.0) fs) in
    let k : (list_all is_small_floor (floors_within e.0) && list_all is_small_floor rest) ≡ true = sym (list_all-append is_small_floor (floors_within e.0) rest) ∙ h in
    All-cons IsFloor e.0 (map (λ e. e.0) fs) (e.1 (first_of_both (list_all is_small_floor (floors_within e.0)) (list_all is_small_floor rest) k)) (floors_made fs (second_of_both (list_all is_small_floor (floors_within e.0)) (list_all is_small_floor rest) k))

form_made_case : (y : Quasi-F ((f : Floor) × FloorMade f) ((q : Quasi) × FormMade q)) → FormMade (roll-Quasi (record { constant = y.constant; terms = y.terms; floors = map (λ e. e.0) y.floors }))
form_made_case y small h =
    let layer : Quasi-F Floor Quasi = record { constant = y.constant; terms = y.terms; floors = map (λ e. e.0) y.floors } in
    let q : Quasi = roll-Quasi layer in
    let floors : (out-Quasi q).floors ≡ map (λ e. e.0) y.floors = ap (λ (l : Quasi-F Floor Quasi). l.floors) (out-roll-Quasi layer) in
    let all = floors_made y.floors (subst (λ (fs : List Floor). AllSmall (flat_map floors_within fs)) floors (subst (λ (fs : List Floor). AllSmall fs) (floors_in-out q) h)) in
    form_made q (subst (λ (fs : List Floor). All IsFloor fs) (sym floors) all) (small_made q small)

-- the parts of a floor's tests
record FloorTests (f : Floor) : Type 0 where
  quotient : IsQuotient (out-Floor f).times (out-Floor f).by
  small : is_small (out-Floor f).inner ≡ true

floor_tests : (f : Floor) → is_small_floor f ≡ true → FloorTests f
floor_tests f h =
    let by : Bool = int_le (pos 1) (out-Floor f).by in
    let times : Bool = nat_le (unsigned_abs (out-Floor f).times) (2 ^ 62) in
    let inner : Bool = is_small (out-Floor f).inner in
    let k = second_of_both by (times && inner) h in
    record {
      quotient = record { positive = at_least (pos 1) (out-Floor f).by (first_of_both by (times && inner) h); entry = leb-true (unsigned_abs (out-Floor f).times) (2 ^ 62) (first_of_both times inner k) };
      small = second_of_both times inner k;
    }

-- a floor comes after those under it
split_within : (f : Floor) → AllSmall (floors_within f) → (list_all is_small_floor (floors_in (out-Floor f).inner) && (is_small_floor f && true)) ≡ true
split_within f h = sym (list_all-append is_small_floor (floors_in (out-Floor f).inner) (f ∷ [])) ∙ (ap (list_all is_small_floor) (sym (floors_within-out f)) ∙ h)

floor_made_case : (y : Floor-F ((f : Floor) × FloorMade f) ((q : Quasi) × FormMade q)) → FloorMade (roll-Floor (record { times = y.times; inner = y.inner.0; by = y.by }))
floor_made_case y h =
    let layer : Floor-F Floor Quasi = record { times = y.times; inner = y.inner.0; by = y.by } in
    let f : Floor = roll-Floor layer in
    let inner : (out-Floor f).inner ≡ y.inner.0 = ap (λ (l : Floor-F Floor Quasi). l.inner) (out-roll-Floor layer) in
    let k = split_within f h in
    let below = first_of_both (list_all is_small_floor (floors_in (out-Floor f).inner)) (is_small_floor f && true) k in
    let own = floor_tests f (first_of_both (is_small_floor f) true (second_of_both (list_all is_small_floor (floors_in (out-Floor f).inner)) (is_small_floor f && true) k)) in
    let made : FormMade (out-Floor f).inner = subst (λ (q : Quasi). FormMade q) (sym inner) y.inner.1 in
    floor_made f (made own.small below) own.quotient

all_made : (q : Quasi) → FormMade q
all_made = ind-Quasi FloorMade FormMade (λ x y is. subst (λ z. FloorMade (roll-Floor z)) is (floor_made_case y)) (λ x y is. subst (λ z. FormMade (roll-Quasi z)) is (form_made_case y))

-- ---- the tests hold

abbrev FloorSeen : Floor → Type 0
FloorSeen f = IsFloor f → AllSmall (floors_within f)

abbrev FormSeen : Quasi → Type 0
FormSeen q = IsForm q → AllSmall (floors_in q)

floors_seen : (fs : List ((f : Floor) × FloorSeen f)) → All IsFloor (map (λ e. e.0) fs) → AllSmall (flat_map floors_within (map (λ e. e.0) fs))
floors_seen [] all = refl
floors_seen (e ∷ fs) all =
    let rest : List Floor = flat_map floors_within (map (λ e. e.0) fs) in
    list_all-append is_small_floor (floors_within e.0) rest ∙ both (list_all is_small_floor (floors_within e.0)) (list_all is_small_floor rest) (e.1 (All-head IsFloor e.0 (map (λ e. e.0) fs) all)) (floors_seen fs (All-tail IsFloor e.0 (map (λ e. e.0) fs) all))

form_seen_case : (y : Quasi-F ((f : Floor) × FloorSeen f) ((q : Quasi) × FormSeen q)) → FormSeen (roll-Quasi (record { constant = y.constant; terms = y.terms; floors = map (λ e. e.0) y.floors }))
form_seen_case y form =
    let layer : Quasi-F Floor Quasi = record { constant = y.constant; terms = y.terms; floors = map (λ e. e.0) y.floors } in
    let q : Quasi = roll-Quasi layer in
    let floors : (out-Quasi q).floors ≡ map (λ e. e.0) y.floors = ap (λ (l : Quasi-F Floor Quasi). l.floors) (out-roll-Quasi layer) in
    ap (list_all is_small_floor) (floors_in-out q) ∙ (ap (λ (fs : List Floor). list_all is_small_floor (flat_map floors_within fs)) floors
    ∙ floors_seen y.floors (subst (λ (fs : List Floor). All IsFloor fs) floors (IsForm-floors q form)))

floor_seen_case : (y : Floor-F ((f : Floor) × FloorSeen f) ((q : Quasi) × FormSeen q)) → FloorSeen (roll-Floor (record { times = y.times; inner = y.inner.0; by = y.by }))
floor_seen_case y floor =
    let layer : Floor-F Floor Quasi = record { times = y.times; inner = y.inner.0; by = y.by } in
    let f : Floor = roll-Floor layer in
    let inner : (out-Floor f).inner ≡ y.inner.0 = ap (λ (l : Floor-F Floor Quasi). l.inner) (out-roll-Floor layer) in
    let seen : FormSeen (out-Floor f).inner = subst (λ (q : Quasi). FormSeen q) (sym inner) y.inner.1 in
    let quotient = IsFloor-quotient f floor in
    let form = IsFloor-inner f floor in
    let own : is_small_floor f ≡ true = both (int_le (pos 1) (out-Floor f).by) (nat_le (unsigned_abs (out-Floor f).times) (2 ^ 62) && is_small (out-Floor f).inner) (reaches (pos 1) (out-Floor f).by quotient.positive)
    (both (nat_le (unsigned_abs (out-Floor f).times) (2 ^ 62)) (is_small (out-Floor f).inner) (le-leb (unsigned_abs (out-Floor f).times) (2 ^ 62) quotient.entry) (small_seen (out-Floor f).inner (IsForm-small (out-Floor f).inner form))) in
    ap (list_all is_small_floor) (floors_within-out f) ∙ (list_all-append is_small_floor (floors_in (out-Floor f).inner) (f ∷ [])
    ∙ both (list_all is_small_floor (floors_in (out-Floor f).inner)) (is_small_floor f && true) (seen form) (both (is_small_floor f) true own refl))

all_seen : (q : Quasi) → FormSeen q
all_seen = ind-Quasi FloorSeen FormSeen (λ x y is. subst (λ z. FloorSeen (roll-Floor z)) is (floor_seen_case y)) (λ x y is. subst (λ z. FormSeen (roll-Quasi z)) is (form_seen_case y))

-- ---- whole forms

pub form_fits : (q : Quasi) → IsForm q → fits_form q ≡ true
form_fits q form = both (is_small q) (list_all is_small_floor (floors_in q)) (small_seen q (IsForm-small q form)) (all_seen q form)

pub fits_is : (q : Quasi) → fits_form q ≡ true → IsForm q
fits_is q h = all_made q (first_of_both (is_small q) (list_all is_small_floor (floors_in q)) h) (second_of_both (is_small q) (list_all is_small_floor (floors_in q)) h)

pub fits_not : (q : Quasi) → (IsForm q → ⊥) → fits_form q ≡ false
fits_not q h = not_so (fits_form q) (λ so. h (fits_is q so))

within_made : (q : Quasi) → fits_within q ≡ true → IsWithin q
within_made q h = record { form = fits_is q (first_of_both (fits_form q) (nat_le (floor_count q) 32) h); floors = leb-true (floor_count q) 32 (second_of_both (fits_form q) (nat_le (floor_count q) 32) h) }

within_seen : (q : Quasi) → IsWithin q → fits_within q ≡ true
within_seen q w = both (fits_form q) (nat_le (floor_count q) 32) (form_fits q w.form) (le-leb (floor_count q) 32 w.floors)

-- ---- forms with others put in

module _ (vs : List ℕ) (fs : List Quasi) where
  abbrev inner_within : Floor → Bool
  inner_within f = fits_within (put_form vs fs (out-Floor f).inner)

  parts_made : (gs : List Floor) → list_all inner_within gs ≡ true → AllByRecursion (PutsInner vs fs) gs
  parts_made [] h = tt
  parts_made (g ∷ gs) h = (within_made (put_form vs fs (out-Floor g).inner) (first_of_both (inner_within g) (list_all inner_within gs) h), parts_made gs (second_of_both (inner_within g) (list_all inner_within gs) h))

  parts_seen : (gs : List Floor) → AllByRecursion (PutsInner vs fs) gs → list_all inner_within gs ≡ true
  parts_seen [] h = refl
  parts_seen (g ∷ gs) h = both (inner_within g) (list_all inner_within gs) (within_seen (put_form vs fs (out-Floor g).inner) h.0) (parts_seen gs h.1)

  pub fits_made : (q : Quasi) → fits vs fs q ≡ true → PutsWithin vs fs q
  fits_made q h = record {
    form = within_made (put_form vs fs q) (first_of_both (fits_within (put_form vs fs q)) (list_all inner_within (floors_in q)) h);
    parts = parts_made (floors_in q) (second_of_both (fits_within (put_form vs fs q)) (list_all inner_within (floors_in q)) h);
  }

  pub fits_seen : (q : Quasi) → PutsWithin vs fs q → fits vs fs q ≡ true
  fits_seen q w = both (fits_within (put_form vs fs q)) (list_all inner_within (floors_in q)) (within_seen (put_form vs fs q) w.form) (parts_seen (floors_in q) w.parts)
