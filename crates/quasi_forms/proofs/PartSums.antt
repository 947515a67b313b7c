-- Sums of multiples of forms in which nothing is collected yet, and how large they are.
use Rattle.std.proofs.Common.{◌≡◌, ℕ, ◌+◌, ◌*◌, ◌^◌, ◌≤◌, ◌-◌, ℤ, pos, ◌+ℤ◌, ◌*ℤ◌, Bool, true, false, cond, List, [], ◌∷◌, ◌++◌, map, sum_by, arith, sym, ap, ap₂, ◌∙◌, subst, unsigned_abs, All, append-nil, append_assoc}
use Rattle.std.specs.Prelude.{flat_map}
use Rattle.std.specs.List.{AllByRecursion}
use Rattle.std.specs.Ordering.{int_eq}
use Rattle.std.proofs.lemmas.Int.{ints, unsigned_abs-mul}
use Rattle.std.proofs.Math.Nat.{mul-le-mul_left}
use Rattle.std.proofs.lemmas.List.Sums.{sum_by-cons, sum_by-append}
use Rattle.std.proofs.lemmas.List.Elements.{All-nil, All-cons, All-head, All-tail}
use Rattle.affine_rows.specs.declared.quasi.Quasi.{Quasi, out-Quasi}
use Rattle.affine_rows.specs.declared.quasi.Floor.{Floor, out-Floor}
use Rattle.affine_rows.specs.Forms.{total, IsForm, IsFloor}
use Rattle.affine_rows.proofs.FormEquations.{IsForm-small, IsForm-floors, IsFloor-quotient, IsFloor-inner, form_terms}
use Rattle.quasi_forms.specs.Collected.{IsWide, with_times, scaled_terms, multiple_floors, scaled_floors, collected_form, combined_form}
use Rattle.quasi_forms.specs.Combined.{IsPart, Multiples, weight, IsSum, HasRoom}
use Rattle.quasi_forms.proofs.FormLimits.{constant_count-out}
use Rattle.quasi_forms.proofs.SumLimits.{scaled-size, scaled-times, wide-with}
use Rattle.quasi_forms.proofs.Recursion.{recursion-append}

wide-floors : (fs : List Floor) → All IsFloor fs → All IsWide fs
wide-floors [] all = All-nil IsWide
wide-floors (f ∷ fs) all =
    let here : IsFloor f = All-head IsFloor f fs all in
    All-cons IsWide f fs (record { positive = (IsFloor-quotient f here).positive; inner = IsFloor-inner f here }) (wide-floors fs (All-tail IsFloor f fs all))

pub form_part : (q : Quasi) → IsForm q → IsPart q
form_part q h = record {
  constant = omega (arith, (IsForm-small q h).constant, constant_count-out q);
  terms = form_terms q h;
  factors = (IsForm-small q h).factors;
  floors = wide-floors (out-Quasi q).floors (IsForm-floors q h);
}

wide-append : (fs gs : List Floor) → All IsWide fs → All IsWide gs → All IsWide (fs ++ gs)
wide-append [] gs h k = k
wide-append (f ∷ fs) gs h k = All-cons IsWide f (fs ++ gs) (All-head IsWide f fs h) (wide-append fs gs (All-tail IsWide f fs h) k)

wide-multiple : (p : ℤ) (fs : List Floor) → All IsWide fs → All IsWide (multiple_floors p fs)
wide-multiple p [] all = All-nil IsWide
wide-multiple p (f ∷ fs) all = All-cons IsWide (with_times (p *ℤ (out-Floor f).times) f) (multiple_floors p fs) (wide-with (p *ℤ (out-Floor f).times) f (All-head IsWide f fs all)) (wide-multiple p fs (All-tail IsWide f fs all))

wide_step : (b : Bool) (fs : List Floor) → All IsWide fs → All IsWide (cond b [] fs)
wide_step true fs all = All-nil IsWide
wide_step false fs all = all

wide-scaled : (p : ℤ) (fs : List Floor) → All IsWide fs → All IsWide (scaled_floors p fs)
wide-scaled p fs all = wide_step (int_eq p (pos 0)) (multiple_floors p fs) (wide-multiple p fs all)

-- ---- how large the parts of a sum are

constants_size : (ms : Multiples) → AllByRecursion (λ m. IsPart m.1) ms → unsigned_abs (total (map (λ m. m.0 *ℤ (out-Quasi m.1).constant) ms)) ≤ weight ms * 2 ^ 62
constants_size [] all = omega arith
constants_size (m ∷ ms) all =
    omega (arith, ints, constants_size ms all.1, unsigned_abs-mul m.0 (out-Quasi m.1).constant, mul-le-mul_left (unsigned_abs m.0) all.0.constant, sum_by-cons (λ (m : ℤ × Quasi). unsigned_abs m.0) m ms)

terms_size : (ms : Multiples) → AllByRecursion (λ m. IsPart m.1) ms → sum_by (λ t. unsigned_abs t.1) (flat_map (λ m. scaled_terms m.0 (out-Quasi m.1).terms) ms) ≤ weight ms * 2 ^ 62
terms_size [] all = omega arith
terms_size (m ∷ ms) all =
    omega (
      arith,
      terms_size ms all.1,
      sum_by-append (λ (t : ℕ × ℤ). unsigned_abs t.1) (scaled_terms m.0 (out-Quasi m.1).terms) (flat_map (λ m. scaled_terms m.0 (out-Quasi m.1).terms) ms),
      scaled-size m.0 (out-Quasi m.1).terms,
      mul-le-mul_left (unsigned_abs m.0) all.0.terms,
      sum_by-cons (λ (m : ℤ × Quasi). unsigned_abs m.0) m ms,
    )

factors_size : (ms : Multiples) → AllByRecursion (λ m. IsPart m.1) ms → sum_by (λ f. unsigned_abs (out-Floor f).times) (flat_map (λ m. scaled_floors m.0 (out-Quasi m.1).floors) ms) ≤ weight ms * 2 ^ 63
factors_size [] all = omega arith
factors_size (m ∷ ms) all =
    omega (
      arith,
      factors_size ms all.1,
      sum_by-append (λ (f : Floor). unsigned_abs (out-Floor f).times) (scaled_floors m.0 (out-Quasi m.1).floors) (flat_map (λ m. scaled_floors m.0 (out-Quasi m.1).floors) ms),
      scaled-times m.0 (out-Quasi m.1).floors,
      mul-le-mul_left (unsigned_abs m.0) all.0.factors,
      sum_by-cons (λ (m : ℤ × Quasi). unsigned_abs m.0) m ms,
    )

wide_floors : (ms : Multiples) → AllByRecursion (λ m. IsPart m.1) ms → All IsWide (flat_map (λ m. scaled_floors m.0 (out-Quasi m.1).floors) ms)
wide_floors [] all = All-nil IsWide
wide_floors (m ∷ ms) all = wide-append (scaled_floors m.0 (out-Quasi m.1).floors) (flat_map (λ m. scaled_floors m.0 (out-Quasi m.1).floors) ms) (wide-scaled m.0 (out-Quasi m.1).floors all.0.floors) (wide_floors ms all.1)

-- ---- what a sum with room is

pub room-constant : (n : ℕ) (c : ℤ) (ts : List (ℕ × ℤ)) (fs : List Floor) (q : Quasi) → HasRoom n c ts fs → IsPart q → unsigned_abs c + n * unsigned_abs (out-Quasi q).constant ≤ 2 ^ 126
room-constant n c ts fs q h part =
    let same = ap unsigned_abs h.sum.constant in
    omega (arith, same, constants_size h.multiples h.sum.parts, h.light, mul-le-mul_left n part.constant)

pub room-terms : (c : ℤ) (ts : List (ℕ × ℤ)) (fs : List Floor) → HasRoom 0 c ts fs → sum_by (λ t. unsigned_abs t.1) ts ≤ 2 ^ 126
room-terms c ts fs h =
    let same = ap (sum_by (λ (t : ℕ × ℤ). unsigned_abs t.1)) h.sum.terms in
    omega (arith, same, terms_size h.multiples h.sum.parts, h.light)

pub room-factors : (c : ℤ) (ts : List (ℕ × ℤ)) (fs : List Floor) → HasRoom 0 c ts fs → sum_by (λ f. unsigned_abs (out-Floor f).times) fs ≤ 2 ^ 127 - 1
room-factors c ts fs h =
    let same = ap (sum_by (λ (f : Floor). unsigned_abs (out-Floor f).times)) h.sum.floors in
    omega (arith, same, factors_size h.multiples h.sum.parts, h.light)

pub room-wide : (c : ℤ) (ts : List (ℕ × ℤ)) (fs : List Floor) → HasRoom 0 c ts fs → All IsWide fs
room-wide c ts fs h = subst (All IsWide) (sym h.sum.floors) (wide_floors h.multiples h.sum.parts)

-- ---- sums that are made

pub total-one : (f : ℤ × Quasi → ℤ) (ms : Multiples) (m : ℤ × Quasi) → total (map f (ms ++ m ∷ [])) ≡ total (map f ms) +ℤ f m
total-one f [] m = omega (arith, ints)
total-one f (n ∷ ms) m = omega (arith, ints, total-one f ms m)

flat-one : {X : Type 0} (f : ℤ × Quasi → List X) (ms : Multiples) (m : ℤ × Quasi) → flat_map f (ms ++ m ∷ []) ≡ flat_map f ms ++ f m
flat-one f [] m = append-nil (f m)
flat-one f (n ∷ ms) m = ap (λ xs. f n ++ xs) (flat-one f ms m) ∙ sym (append_assoc (f n) (flat_map f ms) (f m))

-- one multiple more
pub sum_more : (p : ℤ) (q : Quasi) (c d : ℤ) (ts us : List (ℕ × ℤ)) (fs gs : List Floor) → IsPart q → d ≡ c +ℤ p *ℤ (out-Quasi q).constant → us ≡ ts ++ scaled_terms p (out-Quasi q).terms → gs ≡ fs ++ scaled_floors p (out-Quasi q).floors →
    (ms : Multiples) → IsSum ms c ts fs → IsSum (ms ++ (p, q) ∷ []) d us gs
sum_more p q c d ts us fs gs part e t f ms h = record {
  parts = recursion-append (λ m. IsPart m.1) ms ((p, q) ∷ []) h.parts (part, tt);
  constant = e ∙ (ap (λ (z : ℤ). z +ℤ p *ℤ (out-Quasi q).constant) h.constant ∙ sym (total-one (λ m. m.0 *ℤ (out-Quasi m.1).constant) ms (p, q)));
  terms = t ∙ (ap (λ (xs : List (ℕ × ℤ)). xs ++ scaled_terms p (out-Quasi q).terms) h.terms ∙ sym (flat-one (λ m. scaled_terms m.0 (out-Quasi m.1).terms) ms (p, q)));
  floors = f ∙ (ap (λ (xs : List Floor). xs ++ scaled_floors p (out-Quasi q).floors) h.floors ∙ sym (flat-one (λ m. scaled_floors m.0 (out-Quasi m.1).floors) ms (p, q)));
}

pub sum_combined : (ms : Multiples) (c : ℤ) (ts : List (ℕ × ℤ)) (fs : List Floor) → IsSum ms c ts fs → collected_form c ts fs ≡ combined_form ms
sum_combined ms c ts fs h =
    ap (λ (z : ℤ). collected_form z ts fs) h.constant
    ∙ ap₂ (λ (us : List (ℕ × ℤ)) (gs : List Floor). collected_form (total (map (λ m. m.0 *ℤ (out-Quasi m.1).constant) ms)) us gs) h.terms h.floors
