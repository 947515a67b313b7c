-- Sums of multiples of terms.
use Rattle.std.proofs.Common.{◌≡◌, ℕ, zero, suc, ◌+◌, ◌<◌, ◌≤◌, ℤ, pos, negsuc, ◌+ℤ◌, ◌*ℤ◌, List, [], ◌∷◌, Bool, true, false, cond, nat_eq, nat_lt, length, map, arith, refl, sym, ap, ◌∙◌, subst, add-one, unsigned_abs, drop, drop-cons, length-drop, ◌++◌, append_assoc, append-nil}
use Rattle.std.specs.Prelude.{slice_index, slice_index_or}
use Rattle.std.proofs.lemmas.List.{nil_from_length}
use Rattle.std.specs.Ordering.{int_eq}
use Rattle.std.specs.List.Sorted.{IsStrictlyIncreasing}
use Rattle.std.proofs.lemmas.Int.{ints}
use Rattle.std.proofs.lemmas.Bool.Decides.{nat_tests, Decides-int_eq}
use Rattle.affine_rows.specs.Rows.{Env, terms_at}
use Rattle.affine_rows.specs.Reduced.{cons_term, add_term, mixed_terms}
use Rattle.wrap_words.proofs.Ring.{distrib, distrib_right, assoc}

-- ---- terms that rise

-- the variable is below those of the terms
abbrev pub Above : ℕ → List (ℕ × ℤ) → Type 0
Above v [] = Unit {0}
Above v (t ∷ ts) = (v < t.0) × Above v ts

abbrev pub Rising : List (ℕ × ℤ) → Type 0
Rising [] = Unit {0}
Rising (t ∷ ts) = Above t.0 ts × Rising ts

pub Above-below : (v w : ℕ) (ts : List (ℕ × ℤ)) → v ≤ w → Above w ts → Above v ts
Above-below v w [] le h = tt
Above-below v w (t ∷ ts) le h = (omega (arith, h.0), Above-below v w ts le h.1)

rest : (x : ℕ) (xs : List ℕ) → IsStrictlyIncreasing (x ∷ xs) → IsStrictlyIncreasing xs
rest x xs up k h = subst (λ (n : ℕ). slice_index xs k < slice_index (x ∷ xs) n) (let e : suc k + 1 ≡ suc (k + 1) = omega arith in e) (up (suc k) (omega arith))

Rising-after : (t : ℕ × ℤ) (ts : List (ℕ × ℤ)) → IsStrictlyIncreasing (t.0 ∷ map (λ t. t.0) ts) → Above t.0 ts × Rising ts
Rising-after t [] up = (tt, tt)
Rising-after t (u ∷ ts) up =
    let more = Rising-after u ts (rest t.0 (u.0 ∷ map (λ t. t.0) ts) up) in
    let step : t.0 < u.0 = up 0 (omega arith) in
    ((step, Above-below t.0 u.0 ts (omega arith) more.0), more)

pub Rising-from : (ts : List (ℕ × ℤ)) → IsStrictlyIncreasing (map (λ t. t.0) ts) → Rising ts
Rising-from [] up = tt
Rising-from (t ∷ ts) up = Rising-after t ts up

pub increasing : (ts : List (ℕ × ℤ)) → Rising ts → IsStrictlyIncreasing (map (λ t. t.0) ts)
increasing [] h k within = absurd (omega arith)
increasing (t ∷ []) h k within = absurd (omega arith)
increasing (t ∷ u ∷ ts) h zero within = h.0.0
increasing (t ∷ u ∷ ts) h (suc k) within =
    subst (λ (n : ℕ). slice_index (map (λ t. t.0) (t ∷ u ∷ ts)) (suc k) < slice_index (map (λ t. t.0) (t ∷ u ∷ ts)) n) (let e : suc (k + 1) ≡ suc k + 1 = omega arith in e) (increasing (u ∷ ts) h.1 k (omega arith))

-- ---- a term in front, and a term at its place, by their tests

pub nonzero : (f : ℤ) → (f ≡ pos 0 → ⊥) → 0 < unsigned_abs f
nonzero (pos zero) not_zero = absurd (not_zero refl)
nonzero (pos (suc n)) not_zero = omega arith
nonzero (negsuc n) not_zero = omega arith

cons_test : (none : Bool) (v : ℕ) (f : ℤ) (ts : List (ℕ × ℤ)) (P : List (ℕ × ℤ) → Type 0) → int_eq f (pos 0) ≡ none → (f ≡ pos 0 → P ts) → (0 < unsigned_abs f → P ((v, f) ∷ ts)) → P (cond none ts ((v, f) ∷ ts))
cons_test true v f ts P e without with = without ((Decides-int_eq f (pos 0)).0 e)
cons_test false v f ts P e without with = with (nonzero f (λ is_zero. let yes = (Decides-int_eq f (pos 0)).1 is_zero in let no : true ≡ false = sym yes ∙ e in cc))

pub cons_by : (v : ℕ) (f : ℤ) (ts : List (ℕ × ℤ)) (P : List (ℕ × ℤ) → Type 0) → (f ≡ pos 0 → P ts) → (0 < unsigned_abs f → P ((v, f) ∷ ts)) → P (cons_term v f ts)
unfolding cons_term
cons_by v f ts P without with = cons_test (int_eq f (pos 0)) v f ts P refl without with

add_test : (low same : Bool) (v : ℕ) (f : ℤ) (t : ℕ × ℤ) (ts : List (ℕ × ℤ)) (P : List (ℕ × ℤ) → Type 0) → nat_lt v t.0 ≡ low → nat_eq v t.0 ≡ same →
    (v < t.0 → P (cons_term v f (t ∷ ts))) → (v ≡ t.0 → P (cons_term v (f +ℤ t.1) ts)) → (t.0 < v → P (t ∷ add_term v f ts)) →
    P (cond low (cons_term v f (t ∷ ts)) (cond same (cons_term v (f +ℤ t.1) ts) (t ∷ add_term v f ts)))
add_test true same v f t ts P lt eq before here after = before (grind (arith, nat_tests))
add_test false true v f t ts P lt eq before here after = here (grind (arith, nat_tests))
add_test false false v f t ts P lt eq before here after = after (grind (arith, nat_tests))

pub add_by : (v : ℕ) (f : ℤ) (t : ℕ × ℤ) (ts : List (ℕ × ℤ)) (P : List (ℕ × ℤ) → Type 0) →
    (v < t.0 → P (cons_term v f (t ∷ ts))) → (v ≡ t.0 → P (cons_term v (f +ℤ t.1) ts)) → (t.0 < v → P (t ∷ add_term v f ts)) → P (add_term v f (t ∷ ts))
unfolding add_term
add_by v f t ts P before here after = add_test (nat_lt v t.0) (nat_eq v t.0) v f t ts P refl refl before here after

-- ---- what stays

pub cons_above : (w v : ℕ) (f : ℤ) (ts : List (ℕ × ℤ)) → w < v → Above w ts → Above w (cons_term v f ts)
cons_above w v f ts lt h = cons_by v f ts (Above w) (λ _. h) (λ _. (lt, h))

pub add_above : (w v : ℕ) (f : ℤ) (ts : List (ℕ × ℤ)) → w < v → Above w ts → Above w (add_term v f ts)
unfolding add_term
add_above w v f [] lt h = cons_above w v f [] lt tt
add_above w v f (t ∷ ts) lt h = add_by v f t ts (Above w) (λ _. cons_above w v f (t ∷ ts) lt h) (λ _. cons_above w v (f +ℤ t.1) ts lt h.1) (λ _. (h.0, add_above w v f ts lt h.1))

pub cons_rising : (v : ℕ) (f : ℤ) (ts : List (ℕ × ℤ)) → Above v ts → Rising ts → Rising (cons_term v f ts)
cons_rising v f ts above h = cons_by v f ts Rising (λ _. h) (λ _. (above, h))

pub add_rising : (v : ℕ) (f : ℤ) (ts : List (ℕ × ℤ)) → Rising ts → Rising (add_term v f ts)
unfolding add_term
add_rising v f [] h = cons_rising v f [] tt tt
add_rising v f (t ∷ ts) h =
    add_by v f t ts Rising
    (λ lt. cons_rising v f (t ∷ ts) (lt, Above-below v t.0 ts (omega arith) h.0) h)
    (λ same. cons_rising v (f +ℤ t.1) ts (Above-below v t.0 ts (omega arith) h.0) h.1)
    (λ lt. (add_above t.0 v f ts lt h.0, add_rising v f ts h.1))

-- terms over the variables below the width, without zeros
abbrev pub AreWithin : ℕ → List (ℕ × ℤ) → Type 0
AreWithin width [] = Unit {0}
AreWithin width (t ∷ ts) = ((t.0 < width) × (0 < unsigned_abs t.1)) × AreWithin width ts

pub cons_within : (width v : ℕ) (f : ℤ) (ts : List (ℕ × ℤ)) → v < width → AreWithin width ts → AreWithin width (cons_term v f ts)
cons_within width v f ts lt h = cons_by v f ts (AreWithin width) (λ _. h) (λ some. ((lt, some), h))

pub add_within : (width v : ℕ) (f : ℤ) (ts : List (ℕ × ℤ)) → v < width → AreWithin width ts → AreWithin width (add_term v f ts)
unfolding add_term
add_within width v f [] lt h = cons_within width v f [] lt tt
add_within width v f (t ∷ ts) lt h =
    add_by v f t ts (AreWithin width) (λ _. cons_within width v f (t ∷ ts) lt h) (λ _. cons_within width v (f +ℤ t.1) ts lt h.1) (λ _. (h.0, add_within width v f ts lt h.1))

pub mixed_within : (width : ℕ) (p : ℤ) (ls : List (ℕ × ℤ)) (q : ℤ) (rs : List (ℕ × ℤ)) → AreWithin width ls → AreWithin width rs → AreWithin width (mixed_terms p ls q rs)
unfolding mixed_terms
mixed_within width p [] q [] hl hr = tt
mixed_within width p [] q (t ∷ ts) hl hr = cons_within width t.0 (q *ℤ t.1) (mixed_terms p [] q ts) hr.0.0 (mixed_within width p [] q ts hl hr.1)
mixed_within width p (t ∷ ts) q rs hl hr = add_within width t.0 (p *ℤ t.1) (mixed_terms p ts q rs) hl.0.0 (mixed_within width p ts q rs hl.1 hr)

mixed_above : (v : ℕ) (p : ℤ) (ls : List (ℕ × ℤ)) (q : ℤ) (rs : List (ℕ × ℤ)) → Above v ls → Above v rs → Above v (mixed_terms p ls q rs)
unfolding mixed_terms
mixed_above v p [] q [] hl hr = tt
mixed_above v p [] q (t ∷ ts) hl hr = cons_above v t.0 (q *ℤ t.1) (mixed_terms p [] q ts) hr.0 (mixed_above v p [] q ts hl hr.1)
mixed_above v p (t ∷ ts) q rs hl hr = add_above v t.0 (p *ℤ t.1) (mixed_terms p ts q rs) hl.0 (mixed_above v p ts q rs hl.1 hr)

pub mixed_rising : (p : ℤ) (ls : List (ℕ × ℤ)) (q : ℤ) (rs : List (ℕ × ℤ)) → Rising rs → Rising (mixed_terms p ls q rs)
unfolding mixed_terms
mixed_rising p [] q [] h = tt
mixed_rising p [] q (t ∷ ts) h = cons_rising t.0 (q *ℤ t.1) (mixed_terms p [] q ts) (mixed_above t.0 p [] q ts tt h.0) (mixed_rising p [] q ts h.1)
mixed_rising p (t ∷ ts) q rs h = add_rising t.0 (p *ℤ t.1) (mixed_terms p ts q rs) (mixed_rising p ts q rs h)

-- ---- values

pub cons_at : (at : Env) (v : ℕ) (f : ℤ) (ts : List (ℕ × ℤ)) → terms_at at (cons_term v f ts) ≡ f *ℤ at v +ℤ terms_at at ts
cons_at at v f ts = cons_by v f ts (λ us. terms_at at us ≡ f *ℤ at v +ℤ terms_at at ts) (λ none. omega (arith, ints, ap (λ (z : ℤ). z *ℤ at v) none)) (λ _. refl)

pub add_at : (at : Env) (v : ℕ) (f : ℤ) (ts : List (ℕ × ℤ)) → terms_at at (add_term v f ts) ≡ f *ℤ at v +ℤ terms_at at ts
unfolding add_term
add_at at v f [] = cons_at at v f []
add_at at v f (t ∷ ts) =
    add_by v f t ts (λ us. terms_at at us ≡ f *ℤ at v +ℤ terms_at at (t ∷ ts))
    (λ _. cons_at at v f (t ∷ ts))
    (λ same. cons_at at v (f +ℤ t.1) ts ∙ omega (arith, ints, distrib_right f t.1 (at v), ap (λ (n : ℕ). t.1 *ℤ at n) same))
    (λ _. omega (arith, ints, add_at at v f ts))

pub mixed_at : (at : Env) (p : ℤ) (ls : List (ℕ × ℤ)) (q : ℤ) (rs : List (ℕ × ℤ)) → terms_at at (mixed_terms p ls q rs) ≡ p *ℤ terms_at at ls +ℤ q *ℤ terms_at at rs
unfolding mixed_terms
mixed_at at p [] q [] = omega (arith, ints)
mixed_at at p [] q (t ∷ ts) =
    omega (arith, ints, cons_at at t.0 (q *ℤ t.1) (mixed_terms p [] q ts), mixed_at at p [] q ts, assoc q t.1 (at t.0), distrib q (t.1 *ℤ at t.0) (terms_at at ts))
mixed_at at p (t ∷ ts) q rs =
    omega (arith, ints, add_at at t.0 (p *ℤ t.1) (mixed_terms p ts q rs), mixed_at at p ts q rs, assoc p t.1 (at t.0), distrib p (t.1 *ℤ at t.0) (terms_at at ts))

-- ---- the first term of a sum

before_all : (v : ℕ) (f : ℤ) (ts : List (ℕ × ℤ)) → Above v ts → add_term v f ts ≡ cons_term v f ts
unfolding add_term
before_all v f [] h = refl
before_all v f (t ∷ ts) h = add_by v f t ts (λ us. us ≡ cons_term v f (t ∷ ts)) (λ _. refl) (λ same. absurd (omega (arith, h.0))) (λ lt. absurd (omega (arith, h.0)))

pub cons_none : (v : ℕ) (f : ℤ) (ts : List (ℕ × ℤ)) → f ≡ pos 0 → cons_term v f ts ≡ ts
cons_none v f ts is_zero = cons_by v f ts (λ us. us ≡ ts) (λ _. refl) (λ some. absurd (omega (arith, ints, ap unsigned_abs is_zero)))

pub cons_some : (v : ℕ) (f : ℤ) (ts : List (ℕ × ℤ)) → 0 < unsigned_abs f → cons_term v f ts ≡ (v, f) ∷ ts
cons_some v f ts some = cons_by v f ts (λ us. us ≡ (v, f) ∷ ts) (λ is_zero. absurd (omega (arith, ints, ap unsigned_abs is_zero))) (λ _. refl)

past : (v w : ℕ) (f g : ℤ) (ts : List (ℕ × ℤ)) → w < v → add_term v f (cons_term w g ts) ≡ cons_term w g (add_term v f ts)
past v w f g ts lt =
    cons_by w g ts (λ us. add_term v f us ≡ cons_term w g (add_term v f ts))
    (λ is_zero. sym (cons_none w g (add_term v f ts) is_zero))
    (λ some. add_by v f (w, g) ts (λ us. us ≡ cons_term w g (add_term v f ts)) (λ below. absurd (omega arith)) (λ same. absurd (omega arith)) (λ _. sym (cons_some w g (add_term v f ts) some)))

joined : (v w : ℕ) (f g : ℤ) (ts : List (ℕ × ℤ)) → v ≡ w → Above v ts → add_term v f (cons_term w g ts) ≡ cons_term v (f +ℤ g) ts
joined v w f g ts same above =
    cons_by w g ts (λ us. add_term v f us ≡ cons_term v (f +ℤ g) ts)
    (λ is_zero. before_all v f ts above ∙ ap (λ (z : ℤ). cons_term v z ts) (let e : f ≡ f +ℤ g = omega (arith, ints) in e))
    (λ some. add_by v f (w, g) ts (λ us. us ≡ cons_term v (f +ℤ g) ts) (λ below. absurd (omega arith)) (λ _. refl) (λ lt. absurd (omega arith)))

-- the first right term comes first
pub first_right : (p : ℤ) (ls : List (ℕ × ℤ)) (q : ℤ) (r : ℕ × ℤ) (rs : List (ℕ × ℤ)) → Above r.0 ls → mixed_terms p ls q (r ∷ rs) ≡ cons_term r.0 (q *ℤ r.1) (mixed_terms p ls q rs)
unfolding mixed_terms
first_right p [] q r rs above = refl
first_right p (l ∷ ls) q r rs above = ap (add_term l.0 (p *ℤ l.1)) (first_right p ls q r rs above.1) ∙ past l.0 r.0 (p *ℤ l.1) (q *ℤ r.1) (mixed_terms p ls q rs) above.0

-- the first left term comes first
pub first_left : (p : ℤ) (l : ℕ × ℤ) (ls : List (ℕ × ℤ)) (q : ℤ) (rs : List (ℕ × ℤ)) → Above l.0 ls → Above l.0 rs → mixed_terms p (l ∷ ls) q rs ≡ cons_term l.0 (p *ℤ l.1) (mixed_terms p ls q rs)
unfolding mixed_terms
first_left p l ls q rs above_left above_right = before_all l.0 (p *ℤ l.1) (mixed_terms p ls q rs) (mixed_above l.0 p ls q rs above_left above_right)

-- both first terms have one variable
pub first_both : (p : ℤ) (l : ℕ × ℤ) (ls : List (ℕ × ℤ)) (q : ℤ) (r : ℕ × ℤ) (rs : List (ℕ × ℤ)) → l.0 ≡ r.0 → Above l.0 ls → Above r.0 rs →
    mixed_terms p (l ∷ ls) q (r ∷ rs) ≡ cons_term l.0 (p *ℤ l.1 +ℤ q *ℤ r.1) (mixed_terms p ls q rs)
unfolding mixed_terms
first_both p l ls q r rs same above_left above_right =
    ap (add_term l.0 (p *ℤ l.1)) (first_right p ls q r rs (Above-below r.0 l.0 ls (omega arith) above_left))
    ∙ joined l.0 r.0 (p *ℤ l.1) (q *ℤ r.1) (mixed_terms p ls q rs) same (mixed_above l.0 p ls q rs above_left (Above-below l.0 r.0 rs (omega arith) above_right))

-- ---- at places of both lists

pub Rising-drop : (ts : List (ℕ × ℤ)) (i : ℕ) → Rising ts → Rising (drop i ts)
Rising-drop ts zero h = h
Rising-drop [] (suc i) h = tt
Rising-drop (t ∷ ts) (suc i) h = Rising-drop ts i h.1

parts : (ts : List (ℕ × ℤ)) (i : ℕ) → i < length ts → drop i ts ≡ slice_index_or ts i (0, pos 0) ∷ drop (i + 1) ts
parts ts i within = rw (add-one, drop-cons ts i (0, pos 0))

above_rest : (ts : List (ℕ × ℤ)) (i : ℕ) → i < length ts → Rising ts → Above (slice_index_or ts i (0, pos 0)).0 (drop (i + 1) ts)
above_rest ts i within h = (subst Rising (parts ts i within) (Rising-drop ts i h)).0

-- the first of the terms that are left is below all, where it is below the first
above_all : (v : ℕ) (ts : List (ℕ × ℤ)) (j : ℕ) → Rising ts → j ≤ length ts → (j < length ts → v < (slice_index_or ts j (0, pos 0)).0) → Above v (drop j ts)
above_all v ts j h le lt =
    elim (nat_lt j (length ts)) as (λ b. nat_lt j (length ts) ≡ b → Above v (drop j ts)) [
      | true ↦ (λ e.
          let within : j < length ts = grind (arith, nat_tests, e) in
          subst (Above v) (sym (parts ts j within)) (lt within, Above-below v (slice_index_or ts j (0, pos 0)).0 (drop (j + 1) ts) (let l = lt within in omega (arith, l)) (above_rest ts j within h)))
      | false ↦ (λ e. subst (Above v) (sym (nil_from_length (drop j ts) (let past : length ts ≤ j = grind (arith, nat_tests, e) in omega (arith, length-drop j ts)))) tt)
    ] refl

pub next_left : (p : ℤ) (left : List (ℕ × ℤ)) (q : ℤ) (right : List (ℕ × ℤ)) (i j : ℕ) (f : ℤ) → Rising left → Rising right → i < length left → j ≤ length right →
    (j < length right → (slice_index_or left i (0, pos 0)).0 < (slice_index_or right j (0, pos 0)).0) → f ≡ p *ℤ (slice_index_or left i (0, pos 0)).1 →
    mixed_terms p (drop i left) q (drop j right) ≡ cons_term (slice_index_or left i (0, pos 0)).0 f (mixed_terms p (drop (i + 1) left) q (drop j right))
next_left p left q right i j f hl hr in_left in_right lt e =
    let l = slice_index_or left i (0, pos 0) in
    ap (λ (ts : List (ℕ × ℤ)). mixed_terms p ts q (drop j right)) (parts left i in_left)
    ∙ (first_left p l (drop (i + 1) left) q (drop j right) (above_rest left i in_left hl) (above_all l.0 right j hr in_right lt)
    ∙ ap (λ (z : ℤ). cons_term l.0 z (mixed_terms p (drop (i + 1) left) q (drop j right))) (sym e))

pub next_right : (p : ℤ) (left : List (ℕ × ℤ)) (q : ℤ) (right : List (ℕ × ℤ)) (i j : ℕ) (f : ℤ) → Rising left → Rising right → i ≤ length left → j < length right →
    (i < length left → (slice_index_or right j (0, pos 0)).0 < (slice_index_or left i (0, pos 0)).0) → f ≡ q *ℤ (slice_index_or right j (0, pos 0)).1 →
    mixed_terms p (drop i left) q (drop j right) ≡ cons_term (slice_index_or right j (0, pos 0)).0 f (mixed_terms p (drop i left) q (drop (j + 1) right))
next_right p left q right i j f hl hr in_left in_right lt e =
    let r = slice_index_or right j (0, pos 0) in
    ap (λ (ts : List (ℕ × ℤ)). mixed_terms p (drop i left) q ts) (parts right j in_right)
    ∙ (first_right p (drop i left) q r (drop (j + 1) right) (above_all r.0 left i hl in_left lt)
    ∙ ap (λ (z : ℤ). cons_term r.0 z (mixed_terms p (drop i left) q (drop (j + 1) right))) (sym e))

pub next_both : (p : ℤ) (left : List (ℕ × ℤ)) (q : ℤ) (right : List (ℕ × ℤ)) (i j : ℕ) (f : ℤ) → Rising left → Rising right → i < length left → j < length right →
    (slice_index_or left i (0, pos 0)).0 ≡ (slice_index_or right j (0, pos 0)).0 → f ≡ p *ℤ (slice_index_or left i (0, pos 0)).1 +ℤ q *ℤ (slice_index_or right j (0, pos 0)).1 →
    mixed_terms p (drop i left) q (drop j right) ≡ cons_term (slice_index_or left i (0, pos 0)).0 f (mixed_terms p (drop (i + 1) left) q (drop (j + 1) right))
next_both p left q right i j f hl hr in_left in_right same e =
    let l = slice_index_or left i (0, pos 0) in
    let r = slice_index_or right j (0, pos 0) in
    ap (λ (ts : List (ℕ × ℤ)). mixed_terms p ts q (drop j right)) (parts left i in_left)
    ∙ (ap (λ (ts : List (ℕ × ℤ)). mixed_terms p (l ∷ drop (i + 1) left) q ts) (parts right j in_right)
    ∙ (first_both p l (drop (i + 1) left) q r (drop (j + 1) right) same (above_rest left i in_left hl) (above_rest right j in_right hr)
    ∙ ap (λ (z : ℤ). cons_term l.0 z (mixed_terms p (drop (i + 1) left) q (drop (j + 1) right))) (sym e)))

-- ---- the loop that makes the sum

pub push_term : (made rest : List (ℕ × ℤ)) (v : ℕ) (f : ℤ) → 0 < unsigned_abs f → (made ++ (v, f) ∷ []) ++ rest ≡ made ++ cons_term v f rest
push_term made rest v f some = append_assoc made ((v, f) ∷ []) rest ∙ ap (λ (ts : List (ℕ × ℤ)). made ++ ts) (sym (cons_some v f rest some))

pub skip_term : (made rest : List (ℕ × ℤ)) (v : ℕ) (f : ℤ) → f ≡ pos 0 → made ++ rest ≡ made ++ cons_term v f rest
skip_term made rest v f none = ap (λ (ts : List (ℕ × ℤ)). made ++ ts) (sym (cons_none v f rest none))

pub none_left : (p : ℤ) (left : List (ℕ × ℤ)) (q : ℤ) (right made : List (ℕ × ℤ)) (i j : ℕ) → length left ≤ i → length right ≤ j → made ++ mixed_terms p (drop i left) q (drop j right) ≡ made
unfolding mixed_terms
none_left p left q right made i j all_left all_right =
    let no_left : drop i left ≡ [] = nil_from_length _ (omega (arith, length-drop i left)) in
    let no_right : drop j right ≡ [] = nil_from_length _ (omega (arith, length-drop j right)) in
    ap (λ (ts : List (ℕ × ℤ)). made ++ mixed_terms p ts q (drop j right)) no_left ∙ (ap (λ (ts : List (ℕ × ℤ)). made ++ mixed_terms p [] q ts) no_right ∙ append-nil made)
