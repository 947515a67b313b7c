-- The values of sums of forms.
use Rattle.std.proofs.Common.{◌≡◌, ℕ, ℤ, pos, ◌+ℤ◌, ◌*ℤ◌, Bool, true, false, not, cond, ◌||◌, List, [], ◌∷◌, ◌++◌, map, arith, refl, sym, ap, ap₂, ◌∙◌}
use Rattle.std.specs.Prelude.{flat_map}
use Rattle.std.specs.List.{filter, list_any}
use Rattle.std.specs.Ordering.{int_eq}
use Rattle.std.specs.Int.{int_div_euclid}
use Rattle.std.proofs.lemmas.Int.{ints}
use Rattle.std.proofs.lemmas.Bool.Decides.{Decides-int_eq}
use Rattle.affine_rows.specs.declared.quasi.Quasi.{Quasi, out-Quasi, out-roll-Quasi}
use Rattle.affine_rows.specs.declared.quasi.Floor.{Floor, roll-Floor, out-Floor, out-roll-Floor}
use Rattle.affine_rows.specs.Rows.{Env, terms_at}
use Rattle.affine_rows.specs.Forms.{total, form_at, floor_at}
use Rattle.affine_rows.proofs.FormEquations.{form_at-out, floor_at-out}
use Rattle.affine_rows.proofs.Sums.{terms_at-append}
use Rattle.wrap_words.proofs.Ring.{distrib, distrib_right, assoc}
use Rattle.quasi_forms.specs.Alike.{same_floor, distinct}
use Rattle.quasi_forms.specs.Collected.{collected_terms, with_times, times_of, collected_floors, scaled_terms, multiple_floors, scaled_floors, collected_form, combined_form, sum_form, floor_form}
use Rattle.quasi_forms.specs.Flattened.{floor_number}
use Rattle.quasi_forms.proofs.TermSums.{collected-at}
use Rattle.quasi_forms.proofs.Likeness.{same_floor-by, same_floor-inner, like_from, like_through}

-- ---- floors that are alike

pub floor_at-number : (env : Env) (f : Floor) → floor_at env f ≡ (out-Floor f).times *ℤ floor_number env f
floor_at-number env f = floor_at-out env f

number-with : (env : Env) (z : ℤ) (f : Floor) → floor_number env (with_times z f) ≡ floor_number env f
number-with env z f = simp out-roll-Floor refl

times-with : (z : ℤ) (f : Floor) → (out-Floor (with_times z f)).times ≡ z
times-with z f = simp out-roll-Floor refl

pub with-at : (env : Env) (z : ℤ) (f : Floor) → floor_at env (with_times z f) ≡ z *ℤ floor_number env f
with-at env z f = floor_at-number env (with_times z f) ∙ ap₂ (λ (x y : ℤ). x *ℤ y) (times-with z f) (number-with env z f)

pub same-number : (env : Env) (f g : Floor) → same_floor f g ≡ true → floor_number env f ≡ floor_number env g
same-number env f g h = ap₂ (λ (q : Quasi) (by : ℤ). int_div_euclid (form_at env q) by) (same_floor-inner f g h) (same_floor-by f g h)

-- the values of floors with their numbers, and those of the ones that are like f
abbrev values : Env → List Floor → ℤ
values env fs = total (map (floor_at env) fs)

-- floors that are gone have no value
gone_step : (env : Env) (f : Floor) (fs : List Floor) (b : Bool) → int_eq (out-Floor f).times (pos 0) ≡ b → values env (cond (not b) (f ∷ fs) fs) ≡ floor_at env f +ℤ values env fs
gone_step env f fs false e = refl
gone_step env f fs true e =
    let none = (Decides-int_eq (out-Floor f).times (pos 0)).0 e in
    omega (arith, ints, floor_at-number env f, ap (λ (z : ℤ). z *ℤ floor_number env f) none)

present-values : (env : Env) (fs : List Floor) → values env (filter (λ f. not (int_eq (out-Floor f).times (pos 0))) fs) ≡ values env fs
present-values env [] = refl
present-values env (f ∷ fs) =
    gone_step env f (filter (λ g. not (int_eq (out-Floor g).times (pos 0))) fs) (int_eq (out-Floor f).times (pos 0)) refl
    ∙ ap (λ (z : ℤ). floor_at env f +ℤ z) (present-values env fs)

-- the sum of the numbers of those that are like g, each times a weight
weight : Bool → ℤ → ℤ
weight b z = cond b z (pos 0)

number_sum : Env → List Floor → Floor → ℤ
number_sum env [] g = pos 0
number_sum env (d ∷ ds) g = weight (same_floor d g) (floor_number env d) +ℤ number_sum env ds g

gathered_sum : Env → List Floor → List Floor → ℤ
gathered_sum env all [] = pos 0
gathered_sum env all (d ∷ ds) = times_of all d *ℤ floor_number env d +ℤ gathered_sum env all ds

gathered-is : (env : Env) (all ds : List Floor) → values env (map (λ f. with_times (times_of all f) f) ds) ≡ gathered_sum env all ds
unfolding gathered_sum
gathered-is env all [] = refl
gathered-is env all (d ∷ ds) = ap₂ (λ (x y : ℤ). x +ℤ y) (with-at env (times_of all d) d) (gathered-is env all ds)

times-step : (g : Floor) (fs : List Floor) (d : Floor) (b : Bool) → same_floor d g ≡ b → times_of (g ∷ fs) d ≡ weight b (out-Floor g).times +ℤ times_of fs d
unfolding weight
times-step g fs d true e = ap (λ (s : Bool). total (map (λ x. (out-Floor x).times) (cond s (g ∷ filter (same_floor d) fs) (filter (same_floor d) fs)))) e
times-step g fs d false e = ap (λ (s : Bool). total (map (λ x. (out-Floor x).times) (cond s (g ∷ filter (same_floor d) fs) (filter (same_floor d) fs)))) e ∙ omega (arith, ints)

weight-times : (b : Bool) (t n : ℤ) → weight b t *ℤ n ≡ t *ℤ weight b n
unfolding weight
weight-times true t n = refl
weight-times false t n = omega (arith, ints)

-- one floor more adds its factor times the numbers of those that are like it
gathered-more : (env : Env) (g : Floor) (all ds : List Floor) → gathered_sum env (g ∷ all) ds ≡ (out-Floor g).times *ℤ number_sum env ds g +ℤ gathered_sum env all ds
unfolding gathered_sum number_sum
gathered-more env g all [] = omega (arith, ints)
gathered-more env g all (d ∷ ds) =
    let t : ℤ = (out-Floor g).times in
    let n : ℤ = floor_number env d in
    let w : ℤ = weight (same_floor d g) t in
    let first : times_of (g ∷ all) d *ℤ n ≡ (w +ℤ times_of all d) *ℤ n = ap (λ (z : ℤ). z *ℤ n) (times-step g all d (same_floor d g) refl) in
    omega (arith, ints, first, distrib_right w (times_of all d) n, weight-times (same_floor d g) t n, gathered-more env g all ds, distrib t (weight (same_floor d g) n) (number_sum env ds g))

gathered-none : (env : Env) (ds : List Floor) → gathered_sum env [] ds ≡ pos 0
unfolding gathered_sum
gathered-none env [] = refl
gathered-none env (d ∷ ds) = omega (arith, ints, gathered-none env ds)

-- ---- of those that are different, one is like each of all

-- a test of floors that only looks at what makes them alike
like_both : (x d g : Floor) → same_floor x g ≡ true → same_floor d g ≡ true → same_floor x d ≡ true
like_both x d g h k = like_from x d (same_floor-by x g h ∙ sym (same_floor-by d g k)) (same_floor-inner x g h ∙ sym (same_floor-inner d g k))

like_not : (x d g : Floor) → same_floor x g ≡ false → same_floor d g ≡ true → same_floor x d ≡ false
like_not x d g h k =
    elim (same_floor x d) as (λ b. same_floor x d ≡ b → b ≡ false) [
      | true ↦ (λ e. absurd (let yes = like_through x d g k e in let no : true ≡ false = sym yes ∙ h in cc))
      | false ↦ (λ _. refl)
    ] refl

-- those that are not like x, where x is like g: none is like g
others-like : (env : Env) (x g : Floor) (ds : List Floor) → same_floor x g ≡ true → number_sum env (filter (λ y. not (same_floor x y)) ds) g ≡ pos 0
unfolding number_sum weight
others-like env x g [] h = refl
others-like env x g (d ∷ ds) h =
    elim (same_floor x d) as (λ b. same_floor x d ≡ b → number_sum env (cond (not b) (d ∷ filter (λ y. not (same_floor x y)) ds) (filter (λ y. not (same_floor x y)) ds)) g ≡ pos 0) [
      | true ↦ (λ e. others-like env x g ds h)
      | false ↦ (λ e.
          let other : same_floor d g ≡ false = elim (same_floor d g) as (λ b. same_floor d g ≡ b → b ≡ false) [
            | true ↦ (λ k. absurd (let yes = like_both x d g h k in let no : true ≡ false = sym yes ∙ e in cc))
            | false ↦ (λ _. refl)
          ] refl in
          omega (arith, ints, ap (λ (b : Bool). cond b (floor_number env d) (pos 0)) other, others-like env x g ds h))
    ] refl

-- where x is not like g, leaving out those like x leaves all that are like g
others-unlike : (env : Env) (x g : Floor) (ds : List Floor) → same_floor x g ≡ false → number_sum env (filter (λ y. not (same_floor x y)) ds) g ≡ number_sum env ds g
unfolding number_sum weight
others-unlike env x g [] h = refl
others-unlike env x g (d ∷ ds) h =
    elim (same_floor x d) as (λ b. same_floor x d ≡ b → number_sum env (cond (not b) (d ∷ filter (λ y. not (same_floor x y)) ds) (filter (λ y. not (same_floor x y)) ds)) g ≡ cond (same_floor d g) (floor_number env d) (pos 0) +ℤ number_sum env ds g) [
      | true ↦ (λ e.
          let other : same_floor d g ≡ false = elim (same_floor d g) as (λ b. same_floor d g ≡ b → b ≡ false) [
            | true ↦ (λ k. absurd (let no : true ≡ false = sym e ∙ like_not x d g h k in cc))
            | false ↦ (λ _. refl)
          ] refl in
          omega (arith, ints, ap (λ (b : Bool). cond b (floor_number env d) (pos 0)) other, others-unlike env x g ds h))
      | false ↦ (λ e. ap (λ (z : ℤ). cond (same_floor d g) (floor_number env d) (pos 0) +ℤ z) (others-unlike env x g ds h))
    ] refl

one-like : (env : Env) (xs : List Floor) (g : Floor) → list_any (λ x. same_floor x g) xs ≡ true → number_sum env (distinct same_floor xs) g ≡ floor_number env g
unfolding number_sum weight
one-like env [] g h = absurd (let no : false ≡ true = h in cc)
one-like env (x ∷ xs) g h =
    elim (same_floor x g) as (λ b. same_floor x g ≡ b → (b || list_any (λ y. same_floor y g) xs) ≡ true → cond b (floor_number env x) (pos 0) +ℤ number_sum env (filter (λ y. not (same_floor x y)) (distinct same_floor xs)) g ≡ floor_number env g) [
      | true ↦ (λ e _. omega (arith, ints, same-number env x g e, others-like env x g (distinct same_floor xs) e))
      | false ↦ (λ e k. omega (arith, ints, others-unlike env x g (distinct same_floor xs) e, one-like env xs g k))
    ] refl h

-- ---- values

pub or_true : (a b : Bool) → b ≡ true → (a || b) ≡ true
or_true true b h = refl
or_true false b h = h

any-later : (f g : Floor) (fs : List Floor) → list_any (λ x. same_floor x g) fs ≡ true → list_any (λ x. same_floor x g) (f ∷ fs) ≡ true
any-later f g fs h = or_true (same_floor f g) (list_any (λ x. same_floor x g) fs) h

-- each of the floors is like one of all
abbrev AllFound : List Floor → List Floor → Type 0
AllFound all [] = Unit {0}
AllFound all (g ∷ gs) = (list_any (λ x. same_floor x g) all ≡ true) × AllFound all gs

found_more : (f : Floor) (all gs : List Floor) → AllFound all gs → AllFound (f ∷ all) gs
found_more f all [] h = tt
found_more f all (g ∷ gs) h = (any-later f g all h.0, found_more f all gs h.1)

found_all : (fs : List Floor) → AllFound fs fs
found_all [] = tt
found_all (f ∷ fs) = (ap (λ (b : Bool). b || list_any (λ x. same_floor x f) fs) (like_from f f refl refl), found_more f fs fs (found_all fs))

gathered-found : (env : Env) (all gs : List Floor) → AllFound all gs → gathered_sum env gs (distinct same_floor all) ≡ values env gs
gathered-found env all [] h = gathered-none env (distinct same_floor all)
gathered-found env all (g ∷ gs) h =
    gathered-more env g gs (distinct same_floor all)
    ∙ ap₂ (λ (x y : ℤ). x +ℤ y) (ap (λ (z : ℤ). (out-Floor g).times *ℤ z) (one-like env all g h.0) ∙ sym (floor_at-number env g)) (gathered-found env all gs h.1)

pub collected-values : (env : Env) (fs : List Floor) → total (map (floor_at env) (collected_floors fs)) ≡ total (map (floor_at env) fs)
unfolding collected_floors
collected-values env fs =
    present-values env (map (λ f. with_times (times_of fs f) f) (distinct same_floor fs))
    ∙ (gathered-is env fs (distinct same_floor fs) ∙ gathered-found env fs fs (found_all fs))

pub collected_form-at : (env : Env) (c : ℤ) (ts : List (ℕ × ℤ)) (fs : List Floor) → form_at env (collected_form c ts fs) ≡ c +ℤ (terms_at env ts +ℤ total (map (floor_at env) fs))
unfolding collected_form
collected_form-at env c ts fs =
    let whole : form_at env (collected_form c ts fs) ≡ c +ℤ (terms_at env (collected_terms ts) +ℤ total (map (floor_at env) (collected_floors fs))) = simp out-roll-Quasi at (form_at-out env (collected_form c ts fs)) in
    omega (arith, ints, whole, collected-at env ts, collected-values env fs)

pub scaled-terms-at : (env : Env) (p : ℤ) (ts : List (ℕ × ℤ)) → terms_at env (scaled_terms p ts) ≡ p *ℤ terms_at env ts
scaled-terms-at env p [] = omega (arith, ints)
scaled-terms-at env p (t ∷ ts) = omega (arith, ints, scaled-terms-at env p ts, assoc p t.1 (env t.0), distrib p (t.1 *ℤ env t.0) (terms_at env ts))

multiple-floors-at : (env : Env) (p : ℤ) (fs : List Floor) → total (map (floor_at env) (multiple_floors p fs)) ≡ p *ℤ total (map (floor_at env) fs)
multiple-floors-at env p [] = omega (arith, ints)
multiple-floors-at env p (f ∷ fs) =
    omega (arith, ints, with-at env (p *ℤ (out-Floor f).times) f, floor_at-number env f, ap (λ (z : ℤ). p *ℤ z) (floor_at-number env f), multiple-floors-at env p fs, assoc p (out-Floor f).times (floor_number env f), distrib p (floor_at env f) (total (map (floor_at env) fs)))

scaled_step : (env : Env) (p : ℤ) (fs : List Floor) (b : Bool) → int_eq p (pos 0) ≡ b → total (map (floor_at env) (cond b [] (multiple_floors p fs))) ≡ p *ℤ total (map (floor_at env) fs)
scaled_step env p fs false e = multiple-floors-at env p fs
scaled_step env p fs true e = let none = (Decides-int_eq p (pos 0)).0 e in omega (arith, ints, ap (λ (z : ℤ). z *ℤ total (map (floor_at env) fs)) none)

pub scaled-floors-at : (env : Env) (p : ℤ) (fs : List Floor) → total (map (floor_at env) (scaled_floors p fs)) ≡ p *ℤ total (map (floor_at env) fs)
scaled-floors-at env p fs = scaled_step env p fs (int_eq p (pos 0)) refl

map-append : (env : Env) (fs gs : List Floor) → total (map (floor_at env) (fs ++ gs)) ≡ total (map (floor_at env) fs) +ℤ total (map (floor_at env) gs)
map-append env [] gs = omega (arith, ints)
map-append env (f ∷ fs) gs = omega (arith, ints, map-append env fs gs)

-- the parts of a sum of multiples, added up
parts_at : (env : Env) (ms : List (ℤ × Quasi)) →
    total (map (λ m. m.0 *ℤ (out-Quasi m.1).constant) ms)
    +ℤ (terms_at env (flat_map (λ m. scaled_terms m.0 (out-Quasi m.1).terms) ms) +ℤ total (map (floor_at env) (flat_map (λ m. scaled_floors m.0 (out-Quasi m.1).floors) ms)))
    ≡ total (map (λ m. m.0 *ℤ form_at env m.1) ms)
parts_at env [] = omega (arith, ints)
parts_at env (m ∷ ms) =
    let p : ℤ = m.0 in
    let c : ℤ = (out-Quasi m.1).constant in
    let t : ℤ = terms_at env (out-Quasi m.1).terms in
    let f : ℤ = total (map (floor_at env) (out-Quasi m.1).floors) in
    let value : p *ℤ form_at env m.1 ≡ p *ℤ (c +ℤ (t +ℤ f)) = ap (λ (z : ℤ). p *ℤ z) (form_at-out env m.1) in
    omega (
      arith,
      ints,
      value,
      parts_at env ms,
      distrib p c (t +ℤ f),
      distrib p t f,
      scaled-terms-at env p (out-Quasi m.1).terms,
      scaled-floors-at env p (out-Quasi m.1).floors,
      terms_at-append env (scaled_terms p (out-Quasi m.1).terms) (flat_map (λ m. scaled_terms m.0 (out-Quasi m.1).terms) ms),
      map-append env (scaled_floors p (out-Quasi m.1).floors) (flat_map (λ m. scaled_floors m.0 (out-Quasi m.1).floors) ms),
    )

pub combined-at : (env : Env) (ms : List (ℤ × Quasi)) → form_at env (combined_form ms) ≡ total (map (λ m. m.0 *ℤ form_at env m.1) ms)
combined-at env ms = collected_form-at env (total (map (λ m. m.0 *ℤ (out-Quasi m.1).constant) ms)) (flat_map (λ m. scaled_terms m.0 (out-Quasi m.1).terms) ms) (flat_map (λ m. scaled_floors m.0 (out-Quasi m.1).floors) ms) ∙ parts_at env ms

pub sum-at : (env : Env) (a : Quasi) (times : ℤ) (b : Quasi) → form_at env (sum_form a times b) ≡ form_at env a +ℤ times *ℤ form_at env b
sum-at env a times b = omega (arith, ints, combined-at env ((pos 1, a) ∷ (times, b) ∷ []))

pub floor-at : (env : Env) (a : Quasi) (by : ℤ) → form_at env (floor_form a by) ≡ int_div_euclid (form_at env a) by
unfolding floor_form
floor-at env a by =
    let whole : form_at env (floor_form a by) ≡ pos 0 +ℤ (pos 0 +ℤ (floor_at env (roll-Floor (record { times = pos 1; inner = a; by = by })) +ℤ pos 0)) = simp out-roll-Quasi at (form_at-out env (floor_form a by)) in
    let one : floor_at env (roll-Floor (record { times = pos 1; inner = a; by = by })) ≡ pos 1 *ℤ int_div_euclid (form_at env a) by = simp out-roll-Floor at (floor_at-out env (roll-Floor (record { times = pos 1; inner = a; by = by }))) in
    omega (arith, ints, whole, one)
