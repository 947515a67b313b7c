-- The multiples of the forms that are put in the places of variables.
use Rattle.std.proofs.Common.{◌≡◌, ℕ, zero, suc, ◌+◌, ◌<◌, ◌≤◌, ℤ, pos, ◌+ℤ◌, ◌*ℤ◌, Bool, true, false, not, cond, ◌||◌, ◌&&◌, nat_eq, length, get_or, take, add-one, List, [], ◌∷◌, ◌++◌, map, sum_by, arith, refl, sym, ap, ap₂, ◌∙◌, subst, unsigned_abs, if◌then◌else◌}
use Rattle.std.specs.List.{filter, list_all}
use Rattle.std.proofs.lemmas.Int.{ints}
use Rattle.std.proofs.lemmas.Bool.Decides.{nat_tests}
use Rattle.std.proofs.lemmas.List.Sums.{sum_by-cons}
use Rattle.std.proofs.Math.Seq.{take-suc}
use Rattle.affine_rows.specs.declared.quasi.Quasi.{Quasi}
use Rattle.affine_rows.specs.Rows.{Env, terms_at}
use Rattle.affine_rows.specs.Forms.{total, form_at}
use Rattle.affine_rows.specs.Reduced.{factor_of}
use Rattle.wrap_words.proofs.Ring.{distrib_right}
use Rattle.expr_tree.specs.Scenes.{given, is_among}
use Rattle.quasi_forms.specs.Collected.{put_parts}
use Rattle.quasi_forms.specs.Combined.{Multiples, weight}
use Rattle.quasi_forms.specs.Placed.{vars_differ}
use Rattle.quasi_forms.proofs.SumLimits.{split}

swapped : (a b : ℕ) → nat_eq a b ≡ nat_eq b a
swapped a b = grind (arith, nat_tests)

same_var : (a b : ℕ) → nat_eq a b ≡ true → a ≡ b
same_var a b e = grind (arith, nat_tests)

or_false : (a b : Bool) → (a || b) ≡ false → (a ≡ false) × (b ≡ false)
or_false true b h = absurd (let no : true ≡ false = h in cc)
or_false false b h = (refl, h)

-- a variable that differs from others is not among them
apart_step : (b other found : Bool) → ((cond b false true) && other) ≡ true → (other ≡ true → found ≡ false) → (b || found) ≡ false
apart_step true other found h k = absurd (let no : false ≡ true = h in cc)
apart_step false other found h k = k h

not_among : (v : ℕ) (vs : List ℕ) → list_all (λ u. if nat_eq v u then false else true) vs ≡ true → is_among vs v ≡ false
not_among v [] h = refl
not_among v (u ∷ vs) h =
    ap (λ (b : Bool). b || is_among vs v) (swapped u v)
    ∙ apart_step (nat_eq v u) (list_all (λ u. if nat_eq v u then false else true) vs) (is_among vs v) h (not_among v vs)

-- ---- one term more

-- a term of another variable adds nothing
unmet : (vs : List ℕ) (bs : List Quasi) (t : ℕ × ℤ) (ts : List (ℕ × ℤ)) → is_among vs t.0 ≡ false → put_parts vs bs (t ∷ ts) ≡ put_parts vs bs ts
unmet [] bs t ts h = refl
unmet (v ∷ vs) [] t ts h = refl
unmet (v ∷ vs) (b ∷ bs) t ts h =
    let apart = or_false (nat_eq v t.0) (is_among vs t.0) h in
    ap₂ (λ (x : Bool) (ms : Multiples). (cond x (t.1 +ℤ factor_of v ts) (factor_of v ts), b) ∷ ms) (swapped t.0 v ∙ apart.0) (unmet vs bs t ts apart.1)

weight_more : (vs : List ℕ) (bs : List Quasi) (t : ℕ × ℤ) (ts : List (ℕ × ℤ)) → vars_differ vs ≡ true → weight (put_parts vs bs (t ∷ ts)) ≤ unsigned_abs t.1 + weight (put_parts vs bs ts)
weight_more [] bs t ts h = omega arith
weight_more (v ∷ vs) [] t ts h = omega arith
weight_more (v ∷ vs) (b ∷ bs) t ts h =
    let f : ℤ = factor_of v ts in
    let parts = split (list_all (λ u. if nat_eq v u then false else true) vs) (vars_differ vs) h in
    let old = sum_by-cons (λ (m : ℤ × Quasi). unsigned_abs m.0) (f, b) (put_parts vs bs ts) in
    let made = sum_by-cons (λ (m : ℤ × Quasi). unsigned_abs m.0) (cond (nat_eq t.0 v) (t.1 +ℤ f) f, b) (put_parts vs bs (t ∷ ts)) in
    let step : unsigned_abs (cond (nat_eq t.0 v) (t.1 +ℤ f) f) + weight (put_parts vs bs (t ∷ ts)) ≤ unsigned_abs t.1 + (unsigned_abs f + weight (put_parts vs bs ts)) =
    elim (nat_eq t.0 v) as (λ x. nat_eq t.0 v ≡ x → unsigned_abs (cond x (t.1 +ℤ f) f) + weight (put_parts vs bs (t ∷ ts)) ≤ unsigned_abs t.1 + (unsigned_abs f + weight (put_parts vs bs ts))) [
      | true ↦ (λ e.
          let other : is_among vs t.0 ≡ false = subst (λ (u : ℕ). is_among vs u ≡ false) (sym (same_var t.0 v e)) (not_among v vs parts.0) in
          let same = ap weight (unmet vs bs t ts other) in
          omega (arith, ints, same))
      | false ↦ (λ e. omega (arith, weight_more vs bs t ts parts.1))
    ] refl in
    omega (arith, old, made, step)

weight-none : (vs : List ℕ) (bs : List Quasi) → weight (put_parts vs bs []) ≡ 0
weight-none [] bs = refl
weight-none (v ∷ vs) [] = refl
weight-none (v ∷ vs) (b ∷ bs) = omega (arith, weight-none vs bs, sum_by-cons (λ (m : ℤ × Quasi). unsigned_abs m.0) (pos 0, b) (put_parts vs bs []))

pub weight-parts : (vs : List ℕ) (bs : List Quasi) (ts : List (ℕ × ℤ)) → vars_differ vs ≡ true → weight (put_parts vs bs ts) ≤ sum_by (λ t. unsigned_abs t.1) ts
weight-parts vs bs [] h = omega (arith, weight-none vs bs)
weight-parts vs bs (t ∷ ts) h = omega (arith, weight-parts vs bs ts h, weight_more vs bs t ts h, sum_by-cons (λ (t : ℕ × ℤ). unsigned_abs t.1) t ts)

-- ---- the values

abbrev put_total : Env → Multiples → ℤ
put_total env ms = total (map (λ m. m.0 *ℤ form_at env m.1) ms)

given_other : (vs : List ℕ) (zs : List ℤ) (env : Env) (u : ℕ) → is_among vs u ≡ false → given vs zs env u ≡ env u
given_other [] zs env u h = refl
given_other (v ∷ vs) [] env u h = refl
given_other (v ∷ vs) (z ∷ zs) env u h =
    let apart = or_false (nat_eq v u) (is_among vs u) h in
    ap (λ (b : Bool). cond b z (given vs zs env u)) apart.0 ∙ given_other vs zs env u apart.1

met : (env : Env) (vs : List ℕ) (bs : List Quasi) (t : ℕ × ℤ) (ts : List (ℕ × ℤ)) → vars_differ vs ≡ true → length vs ≡ length bs → is_among vs t.0 ≡ true →
    put_total env (put_parts vs bs (t ∷ ts)) ≡ t.1 *ℤ given vs (map (form_at env) bs) env t.0 +ℤ put_total env (put_parts vs bs ts)
met env [] bs t ts h n m = absurd (let no : false ≡ true = m in cc)
met env (v ∷ vs) [] t ts h n m = absurd (omega (arith, n))
met env (v ∷ vs) (b ∷ bs) t ts h n m =
    let f : ℤ = factor_of v ts in
    let z : ℤ = form_at env b in
    let rest : ℤ = given vs (map (form_at env) bs) env t.0 in
    let old : ℤ = put_total env (put_parts vs bs ts) in
    let parts = split (list_all (λ u. if nat_eq v u then false else true) vs) (vars_differ vs) h in
    elim (nat_eq v t.0) as (λ x. nat_eq v t.0 ≡ x → (x || is_among vs t.0) ≡ true → cond (nat_eq t.0 v) (t.1 +ℤ f) f *ℤ z +ℤ put_total env (put_parts vs bs (t ∷ ts)) ≡ t.1 *ℤ cond x z rest +ℤ (f *ℤ z +ℤ old)) [
      | true ↦ (λ e _.
          let other : is_among vs t.0 ≡ false = subst (λ (u : ℕ). is_among vs u ≡ false) (same_var v t.0 e) (not_among v vs parts.0) in
          let same = ap (put_total env) (unmet vs bs t ts other) in
          let first = ap (λ (x : Bool). cond x (t.1 +ℤ f) f *ℤ z) (swapped t.0 v ∙ e) in
          omega (arith, ints, same, first, distrib_right t.1 f z))
      | false ↦ (λ e k.
          let first = ap (λ (x : Bool). cond x (t.1 +ℤ f) f *ℤ z) (swapped t.0 v ∙ e) in
          omega (arith, ints, first, met env vs bs t ts parts.1 (omega (arith, n)) k))
    ] refl m

none : (env : Env) (vs : List ℕ) (bs : List Quasi) → put_total env (put_parts vs bs []) ≡ pos 0
none env [] bs = refl
none env (v ∷ vs) [] = refl
none env (v ∷ vs) (b ∷ bs) = omega (arith, ints, none env vs bs)

-- the forms' multiples apart from the terms of other variables
pub apart : (env : Env) (vs : List ℕ) (bs : List Quasi) (ts : List (ℕ × ℤ)) → vars_differ vs ≡ true → length vs ≡ length bs →
    terms_at (given vs (map (form_at env) bs) env) ts ≡ total (map (λ m. m.0 *ℤ form_at env m.1) (put_parts vs bs ts)) +ℤ terms_at env (filter (λ t. not (is_among vs t.0)) ts)
apart env vs bs [] h n = omega (arith, ints, none env vs bs)
apart env vs bs (t ∷ ts) h n =
    let others : List (ℕ × ℤ) = filter (λ t. not (is_among vs t.0)) ts in
    let at : Env = given vs (map (form_at env) bs) env in
    elim (is_among vs t.0) as (λ x. is_among vs t.0 ≡ x → t.1 *ℤ at t.0 +ℤ terms_at at ts ≡ put_total env (put_parts vs bs (t ∷ ts)) +ℤ terms_at env (cond (not x) (t ∷ others) others)) [
      | true ↦ (λ e. omega (arith, ints, apart env vs bs ts h n, met env vs bs t ts h n e))
      | false ↦ (λ e.
          let same = ap (put_total env) (unmet vs bs t ts e) in
          let alone = ap (λ (z : ℤ). t.1 *ℤ z) (given_other vs (map (form_at env) bs) env t.0 e) in
          omega (arith, ints, apart env vs bs ts h n, same, alone))
    ] refl

-- ---- the multiples one after another

pub length-parts : (vs : List ℕ) (bs : List Quasi) (ts : List (ℕ × ℤ)) → length vs ≡ length bs → length (put_parts vs bs ts) ≡ length vs
length-parts [] bs ts n = refl
length-parts (v ∷ vs) [] ts n = absurd (omega (arith, n))
length-parts (v ∷ vs) (b ∷ bs) ts n = omega (arith, length-parts vs bs ts (omega (arith, n)))

pub part_at : (vs : List ℕ) (bs : List Quasi) (ts : List (ℕ × ℤ)) (i d : ℕ) (e : Quasi) → i < length vs → length vs ≡ length bs → get_or (put_parts vs bs ts) i (pos 0, e) ≡ (factor_of (get_or vs i d) ts, get_or bs i e)
part_at [] bs ts i d e within n = absurd (omega (arith, within))
part_at (v ∷ vs) [] ts i d e within n = absurd (omega (arith, n))
part_at (v ∷ vs) (b ∷ bs) ts zero d e within n = refl
part_at (v ∷ vs) (b ∷ bs) ts (suc i) d e within n = part_at vs bs ts i d e (omega (arith, within)) (omega (arith, n))

pub parts_next : (vs : List ℕ) (bs : List Quasi) (ts : List (ℕ × ℤ)) (i d : ℕ) (e : Quasi) → i < length vs → length vs ≡ length bs → e ≡ get_or bs i e → take (i + 1) (put_parts vs bs ts) ≡ take i (put_parts vs bs ts) ++ (factor_of (get_or vs i d) ts, e) ∷ []
parts_next vs bs ts i d e within n is =
    let ms : Multiples = put_parts vs bs ts in
    ap (λ (k : ℕ). take k ms) (add-one i)
    ∙ (take-suc ms i (pos 0, e) (omega (arith, within, length-parts vs bs ts n))
    ∙ ap (λ (m : ℤ × Quasi). take i ms ++ m ∷ []) (part_at vs bs ts i d e within n ∙ ap (λ (q : Quasi). (factor_of (get_or vs i d) ts, q)) (sym is)))
