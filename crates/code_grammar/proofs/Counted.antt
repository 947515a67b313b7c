-- Forms that grow within their limits.
use Rattle.std.proofs.Common.{◌∙◌, ap, ◌<◌, ◌*◌, ◌≤ℤ◌, length, get_or, ◌≡◌, ℕ, ◌+◌, ◌^◌, ◌≤◌, ℤ, pos, List, [], ◌∷◌, ◌++◌, sum_by, unsigned_abs, arith, refl, subst, sym, All}
use Rattle.std.proofs.lemmas.List.Sums.{sum-map, sum_by-append, sum_by-cons}
use Rattle.std.proofs.lemmas.List.Elements.{All-nil, All-push}
use Rattle.affine_rows.specs.declared.quasi.Quasi.{Quasi, roll-Quasi, out-Quasi, out-roll-Quasi, fold-roll-Quasi}
use Rattle.affine_rows.specs.declared.quasi.Floor.{Floor, Floor-F, roll-Floor, out-Floor, out-roll-Floor, fold-roll-Floor}
use Rattle.affine_rows.specs.Forms.{ceil_div, floor_count, sum_step, constant_step, sum_count, constant_count, IsSmall, IsQuotient, IsForm, IsFloor}
use Rattle.affine_rows.specs.Reach.{floor_sum, floor_constant}
use Rattle.affine_rows.proofs.FormEquations.{IsForm-floors, IsFloor-inner}
use Rattle.quasi_forms.proofs.FormLimits.{form_made, floor_made}
use Rattle.code_grammar.specs.Growing.{IsCounted}

pub none_counted : IsCounted (pos 0) [] [] 0 0 0
none_counted = record {
  each = All-nil IsFloor;
  size_is = refl;
  rest_is = refl;
  factors_is = refl;
  size_small = omega arith;
  constant_small = omega arith;
  factors_small = omega arith;
}

pub term_counted : (c : ℤ) (ts : List (ℕ × ℤ)) (fs : List Floor) (s r k n : ℕ) (t : ℕ × ℤ) → IsCounted c ts fs s r k → n ≡ s + unsigned_abs t.1 → n ≤ 2 ^ 62 → IsCounted c (ts ++ t ∷ []) fs n r k
term_counted c ts fs s r k n t h e small = record {
  each = h.each;
  size_is = omega (arith, h.size_is, e, sum_by-append (λ (t : ℕ × ℤ). unsigned_abs t.1) ts (t ∷ []), sum_by-cons (λ (t : ℕ × ℤ). unsigned_abs t.1) t []);
  rest_is = h.rest_is;
  factors_is = h.factors_is;
  size_small = small;
  constant_small = h.constant_small;
  factors_small = h.factors_small;
}

pub constant_counted : (c d : ℤ) (ts : List (ℕ × ℤ)) (fs : List Floor) (s r k : ℕ) → IsCounted c ts fs s r k → unsigned_abs d + r ≤ 2 ^ 62 → IsCounted d ts fs s r k
constant_counted c d ts fs s r k h small = record {
  each = h.each;
  size_is = h.size_is;
  rest_is = h.rest_is;
  factors_is = h.factors_is;
  size_small = h.size_small;
  constant_small = small;
  factors_small = h.factors_small;
}

pub floor_counted : (c : ℤ) (ts : List (ℕ × ℤ)) (fs : List Floor) (s r k n m j : ℕ) (f : Floor) → IsCounted c ts fs s r k → IsFloor f → n ≡ s + floor_sum f → m ≡ r + floor_constant f → j ≡ k + unsigned_abs (out-Floor f).times → n ≤ 2 ^ 62 → unsigned_abs c + m ≤ 2 ^ 62 → j ≤ 2 ^ 63 → IsCounted c ts (fs ++ f ∷ []) n m j
floor_counted c ts fs s r k n m j f h floor n_is m_is j_is n_small m_small j_small = record {
  each = All-push IsFloor fs f h.each floor;
  size_is = omega (arith, h.size_is, n_is, sum_by-append floor_sum fs (f ∷ []), sum_by-cons floor_sum f []);
  rest_is = omega (arith, h.rest_is, m_is, sum_by-append floor_constant fs (f ∷ []), sum_by-cons floor_constant f []);
  factors_is = omega (arith, h.factors_is, j_is, sum_by-append (λ (f : Floor). unsigned_abs (out-Floor f).times) fs (f ∷ []), sum_by-cons (λ (f : Floor). unsigned_abs (out-Floor f).times) f []);
  size_small = n_small;
  constant_small = m_small;
  factors_small = j_small;
}

-- the form of these parts
abbrev pub form_over : ℤ → List (ℕ × ℤ) → List Floor → Quasi
form_over c ts fs = roll-Quasi (record { constant = c; terms = ts; floors = fs })

pub size_of : (c : ℤ) (ts : List (ℕ × ℤ)) (fs : List Floor) (s r k : ℕ) → IsCounted c ts fs s r k → s ≡ sum_count (form_over c ts fs)
size_of c ts fs s r k h = omega (arith, h.size_is, fold-roll-Quasi ℕ ℕ floor_count sum_step (record { constant = c; terms = ts; floors = fs }), sum-map floor_sum fs)

pub constant_of : (c : ℤ) (ts : List (ℕ × ℤ)) (fs : List Floor) (s r k : ℕ) → IsCounted c ts fs s r k → unsigned_abs c + r ≡ constant_count (form_over c ts fs)
constant_of c ts fs s r k h = omega (arith, h.rest_is, fold-roll-Quasi ℕ ℕ floor_count constant_step (record { constant = c; terms = ts; floors = fs }), sum-map floor_constant fs)

small_of : (c : ℤ) (ts : List (ℕ × ℤ)) (fs : List Floor) (s r k : ℕ) → IsCounted c ts fs s r k → IsSmall (form_over c ts fs)
small_of c ts fs s r k h = record {
  sum = omega (arith, size_of c ts fs s r k h, h.size_small);
  constant = omega (arith, constant_of c ts fs s r k h, h.constant_small);
  factors = simp out-roll-Quasi (omega (arith, h.factors_is, h.factors_small));
}

pub form_of : (c : ℤ) (ts : List (ℕ × ℤ)) (fs : List Floor) (s r k : ℕ) → IsCounted c ts fs s r k → IsForm (form_over c ts fs)
form_of c ts fs s r k h = form_made (form_over c ts fs) (simp out-roll-Quasi h.each) (small_of c ts fs s r k h)

-- the floor of these parts
abbrev pub floor_over : ℤ → Quasi → ℤ → Floor
floor_over t q b = roll-Floor (record { times = t; inner = q; by = b })

pub floor_within : (t : ℤ) (q : Quasi) (b : ℤ) → IsForm q → pos 1 ≤ℤ b → unsigned_abs t ≤ 2 ^ 62 → IsFloor (floor_over t q b)
floor_within t q b h positive entry =
    let layer : Floor-F Floor Quasi = record { times = t; inner = q; by = b } in
    floor_made (roll-Floor layer) (subst (λ z. IsForm z.inner) (sym (out-roll-Floor layer)) h) (subst (λ z. IsQuotient z.times z.by) (sym (out-roll-Floor layer)) (record { positive = positive; entry = entry }))

pub sum_over : (t : ℤ) (q : Quasi) (b : ℤ) → floor_sum (floor_over t q b) ≡ unsigned_abs t * ceil_div (sum_count q) (unsigned_abs b)
sum_over t q b = fold-roll-Floor ℕ ℕ floor_count sum_step (record { times = t; inner = q; by = b })

pub constant_over : (t : ℤ) (q : Quasi) (b : ℤ) → floor_constant (floor_over t q b) ≡ unsigned_abs t * ceil_div (constant_count q) (unsigned_abs b)
constant_over t q b = fold-roll-Floor ℕ ℕ floor_count constant_step (record { times = t; inner = q; by = b })

-- the form under the first floor of a form
inner_within : (q : Quasi) (f : Floor) → IsForm q → 0 < length (out-Quasi q).floors → f ≡ get_or (out-Quasi q).floors 0 f → IsForm (out-Floor f).inner
inner_within q f h some e = IsFloor-inner f (subst (λ z. IsFloor z) (sym e) (IsForm-floors q h 0 f some))

-- a copy of it, where the floors were taken from an equal form
pub copy_within : (p q : Quasi) (fs : List Floor) (f : Floor) (i : Quasi) → p ≡ q → IsForm q → fs ≡ (out-Quasi p).floors → 0 < length (out-Quasi q).floors → f ≡ get_or fs 0 f → i ≡ (out-Floor f).inner → IsForm i
copy_within p q fs f i same h listed some e copied =
    let floors : fs ≡ (out-Quasi q).floors = listed ∙ ap (λ (z : Quasi). (out-Quasi z).floors) same in
    subst (λ z. IsForm z) (sym copied) (inner_within q f h some (subst (λ (zs : List Floor). f ≡ get_or zs 0 f) floors e))
