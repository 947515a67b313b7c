-- A form in the place of a variable: its value, and its parts.
use Rattle.std.proofs.Common.{◌≡◌, ℕ, zero, suc, ◌+◌, ◌<◌, ◌≤◌, ◌^◌, ℤ, pos, ◌+ℤ◌, ◌*ℤ◌, ◌≤ℤ◌, Bool, true, false, not, cond, nat_eq, length, get_or, drop, drop-cons, add-one, List, [], ◌∷◌, ◌++◌, map, sum_by, arith, refl, sym, ap, ap₂, ◌∙◌, subst, unsigned_abs, All}
use Rattle.std.specs.Prelude.{flat_map}
use Rattle.std.specs.List.{filter, AllByRecursion}
use Rattle.std.specs.Int.{int_div_euclid}
use Rattle.std.proofs.lemmas.Int.{ints}
use Rattle.std.proofs.lemmas.List.Sums.{sum_by-cons, sum_by-append}
use Rattle.std.proofs.lemmas.List.Elements.{All-nil, All-cons, All-head, All-tail}
use Rattle.affine_rows.specs.declared.quasi.Quasi.{Quasi, Quasi-F, roll-Quasi, out-Quasi, out-roll-Quasi, fold_out-Quasi, fold-roll-Quasi, ind-Quasi}
use Rattle.affine_rows.specs.declared.quasi.Floor.{Floor, Floor-F, roll-Floor, out-Floor, out-roll-Floor, fold_out-Floor}
use Rattle.affine_rows.specs.Rows.{Env, terms_at}
use Rattle.affine_rows.specs.Forms.{total, form_at, floor_at, IsForm, IsFloor}
use Rattle.affine_rows.specs.Reduced.{factor_of}
use Rattle.affine_rows.proofs.FormEquations.{form_at-out, floor_at-out, IsFloor-quotient, form_terms}
use Rattle.expr_tree.specs.Scenes.{given, is_among}
use Rattle.quasi_forms.specs.Collected.{IsWide, put_parts, put_form, put_step, put_over, put_floor_step, without_terms, combined_form}
use Rattle.quasi_forms.specs.Combined.{IsPart, Multiples, weight}
use Rattle.quasi_forms.specs.Placed.{vars_differ, put_floor, PutsInner, PutsWithin}
use Rattle.quasi_forms.specs.Limits.{floors_in, floors_within}
use Rattle.quasi_forms.proofs.FormValues.{combined-at}
use Rattle.quasi_forms.proofs.FormLimits.{floors_within-out}
use Rattle.quasi_forms.proofs.PartSums.{form_part, total-one}
use Rattle.quasi_forms.proofs.PutParts.{apart, weight-parts}
use Rattle.quasi_forms.proofs.Recursion.{recursion-left, recursion-right, recursion-append}

-- ---- equations

pub put_form-out : (vs : List ℕ) (bs : List Quasi) (q : Quasi) →
    put_form vs bs q ≡ put_step vs bs (record { constant = (out-Quasi q).constant; terms = (out-Quasi q).terms; floors = map (put_floor vs bs) (out-Quasi q).floors })
unfolding put_form put_floor
put_form-out vs bs q = fold_out-Quasi Floor Quasi put_floor_step (put_step vs bs) q

put_form-roll : (vs : List ℕ) (bs : List Quasi) (l : Quasi-F Floor Quasi) → put_form vs bs (roll-Quasi l) ≡ put_step vs bs (record { constant = l.constant; terms = l.terms; floors = map (put_floor vs bs) l.floors })
unfolding put_form put_floor
put_form-roll vs bs l = fold-roll-Quasi Floor Quasi put_floor_step (put_step vs bs) l

pub put_floor-out : (vs : List ℕ) (bs : List Quasi) (f : Floor) → put_floor vs bs f ≡ roll-Floor (record { times = (out-Floor f).times; inner = put_form vs bs (out-Floor f).inner; by = (out-Floor f).by })
unfolding put_form put_floor
put_floor-out vs bs f = fold_out-Floor Floor Quasi put_floor_step (put_step vs bs) f

-- ---- the value

abbrev FloorPut : List ℕ → List Quasi → Floor → Type 0
FloorPut vs bs f = (env : Env) → floor_at env (put_floor vs bs f) ≡ floor_at (given vs (map (form_at env) bs) env) f

abbrev FormPut : List ℕ → List Quasi → Quasi → Type 0
FormPut vs bs q = (env : Env) → form_at env (put_form vs bs q) ≡ form_at (given vs (map (form_at env) bs) env) q

floors_put : (vs : List ℕ) (bs : List Quasi) (fs : List ((f : Floor) × FloorPut vs bs f)) (env : Env) →
    total (map (floor_at env) (map (put_floor vs bs) (map (λ e. e.0) fs))) ≡ total (map (floor_at (given vs (map (form_at env) bs) env)) (map (λ e. e.0) fs))
floors_put vs bs [] env = refl
floors_put vs bs (f ∷ fs) env = ap₂ (λ (x y : ℤ). x +ℤ y) (f.1 env) (floors_put vs bs fs env)

without-at : (env : Env) (vs : List ℕ) (q : Quasi-F Floor Quasi) → form_at env (without_terms vs q) ≡ q.constant +ℤ (terms_at env (filter (λ t. not (is_among vs t.0)) q.terms) +ℤ total (map (floor_at env) q.floors))
without-at env vs q = simp out-roll-Quasi at (form_at-out env (without_terms vs q))

form_case : (vs : List ℕ) (bs : List Quasi) → vars_differ vs ≡ true → length vs ≡ length bs → (y : Quasi-F ((f : Floor) × FloorPut vs bs f) ((q : Quasi) × FormPut vs bs q)) →
    FormPut vs bs (roll-Quasi (record { constant = y.constant; terms = y.terms; floors = map (λ e. e.0) y.floors }))
form_case vs bs differ count y env =
    let q : Quasi = roll-Quasi (record { constant = y.constant; terms = y.terms; floors = map (λ e. e.0) y.floors }) in
    let layer : Quasi-F Floor Quasi = record { constant = y.constant; terms = y.terms; floors = map (put_floor vs bs) (map (λ e. e.0) y.floors) } in
    let at : Env = given vs (map (form_at env) bs) env in
    let ms : Multiples = put_parts vs bs y.terms in
    let last : ℤ × Quasi = (pos 1, without_terms vs layer) in
    let made : put_form vs bs q ≡ put_step vs bs layer = put_form-roll vs bs (record { constant = y.constant; terms = y.terms; floors = map (λ e. e.0) y.floors }) in
    let left = ap (form_at env) made ∙ (combined-at env (ms ++ last ∷ []) ∙ total-one (λ m. m.0 *ℤ form_at env m.1) ms last) in
    let right : form_at at q ≡ y.constant +ℤ (terms_at at y.terms +ℤ total (map (floor_at at) (map (λ e. e.0) y.floors))) = simp out-roll-Quasi at (form_at-out at q) in
    omega (arith, ints, left, right, without-at env vs layer, apart env vs bs y.terms differ count, floors_put vs bs y.floors env)

floor_case : (vs : List ℕ) (bs : List Quasi) (y : Floor-F ((f : Floor) × FloorPut vs bs f) ((q : Quasi) × FormPut vs bs q)) → FloorPut vs bs (roll-Floor (record { times = y.times; inner = y.inner.0; by = y.by }))
floor_case vs bs y env =
    let at : Env = given vs (map (form_at env) bs) env in
    let f : Floor = roll-Floor (record { times = y.times; inner = y.inner.0; by = y.by }) in
    let g : Floor = roll-Floor (record { times = y.times; inner = put_form vs bs y.inner.0; by = y.by }) in
    let made : put_floor vs bs f ≡ g = simp out-roll-Floor at (put_floor-out vs bs f) in
    let left : floor_at env g ≡ y.times *ℤ int_div_euclid (form_at env (put_form vs bs y.inner.0)) y.by = simp out-roll-Floor at (floor_at-out env g) in
    let right : floor_at at f ≡ y.times *ℤ int_div_euclid (form_at at y.inner.0) y.by = simp out-roll-Floor at (floor_at-out at f) in
    ap (floor_at env) made ∙ (left ∙ (ap (λ (x : ℤ). y.times *ℤ int_div_euclid x y.by) (y.inner.1 env) ∙ sym right))

pub put-at : (vs : List ℕ) (bs : List Quasi) → vars_differ vs ≡ true → length vs ≡ length bs → (q : Quasi) → FormPut vs bs q
put-at vs bs differ count q =
    ind-Quasi (FloorPut vs bs) (FormPut vs bs) (λ x y is. subst (λ z. FloorPut vs bs (roll-Floor z)) is (floor_case vs bs y)) (λ x y is. subst (λ z. FormPut vs bs (roll-Quasi z)) is (form_case vs bs differ count y)) q

-- ---- the other terms

kept_size : (b : Bool) (t : ℕ × ℤ) (rest : List (ℕ × ℤ)) (n m : ℕ) → sum_by (λ t. unsigned_abs t.1) rest ≤ n → m ≡ unsigned_abs t.1 + n → sum_by (λ t. unsigned_abs t.1) (cond b (t ∷ rest) rest) ≤ m
kept_size true t rest n m h e = omega (arith, h, e, sum_by-cons (λ (t : ℕ × ℤ). unsigned_abs t.1) t rest)
kept_size false t rest n m h e = omega (arith, h, e)

pub others_size : (vs : List ℕ) (ts : List (ℕ × ℤ)) → sum_by (λ t. unsigned_abs t.1) (filter (λ t. not (is_among vs t.0)) ts) ≤ sum_by (λ t. unsigned_abs t.1) ts
others_size vs [] = omega arith
others_size vs (t ∷ ts) = kept_size (not (is_among vs t.0)) t (filter (λ t. not (is_among vs t.0)) ts) (sum_by (λ t. unsigned_abs t.1) ts) (sum_by (λ t. unsigned_abs t.1) (t ∷ ts)) (others_size vs ts) (sum_by-cons (λ (t : ℕ × ℤ). unsigned_abs t.1) t ts)

-- ---- floors with a form put in

times-put : (vs : List ℕ) (bs : List Quasi) (f : Floor) → (out-Floor (put_floor vs bs f)).times ≡ (out-Floor f).times
times-put vs bs f = ap (λ (g : Floor). (out-Floor g).times) (put_floor-out vs bs f) ∙ (simp out-roll-Floor refl)

by-put : (vs : List ℕ) (bs : List Quasi) (f : Floor) → (out-Floor (put_floor vs bs f)).by ≡ (out-Floor f).by
by-put vs bs f = ap (λ (g : Floor). (out-Floor g).by) (put_floor-out vs bs f) ∙ (simp out-roll-Floor refl)

inner-put : (vs : List ℕ) (bs : List Quasi) (f : Floor) → (out-Floor (put_floor vs bs f)).inner ≡ put_form vs bs (out-Floor f).inner
inner-put vs bs f = ap (λ (g : Floor). (out-Floor g).inner) (put_floor-out vs bs f) ∙ (simp out-roll-Floor refl)

pub times_put : (vs : List ℕ) (bs : List Quasi) (fs : List Floor) → sum_by (λ f. unsigned_abs (out-Floor f).times) (map (put_floor vs bs) fs) ≡ sum_by (λ f. unsigned_abs (out-Floor f).times) fs
times_put vs bs [] = refl
times_put vs bs (f ∷ fs) =
    omega (arith, times_put vs bs fs, ap unsigned_abs (times-put vs bs f), sum_by-cons (λ (f : Floor). unsigned_abs (out-Floor f).times) f fs, sum_by-cons (λ (f : Floor). unsigned_abs (out-Floor f).times) (put_floor vs bs f) (map (put_floor vs bs) fs))

-- facts of the floors in floors
-- a floor's parts are those of the form under it, and that form
pub parts_made : (vs : List ℕ) (bs : List Quasi) (f : Floor) → PutsWithin vs bs (out-Floor f).inner → AllByRecursion (PutsInner vs bs) (floors_within f)
parts_made vs bs f h = subst (AllByRecursion (PutsInner vs bs)) (sym (floors_within-out f)) (recursion-append (PutsInner vs bs) (floors_in (out-Floor f).inner) (f ∷ []) h.parts (h.form, tt))

pub parts_inner : (vs : List ℕ) (bs : List Quasi) (f : Floor) → AllByRecursion (PutsInner vs bs) (floors_within f) → PutsWithin vs bs (out-Floor f).inner
parts_inner vs bs f h =
    let all = subst (AllByRecursion (PutsInner vs bs)) (floors_within-out f) h in
    record { form = (recursion-right (PutsInner vs bs) (floors_in (out-Floor f).inner) (f ∷ []) all).0; parts = recursion-left (PutsInner vs bs) (floors_in (out-Floor f).inner) (f ∷ []) all }

-- what is put under floors is within its limits
pub wide_put : (vs : List ℕ) (bs : List Quasi) (fs : List Floor) → All IsFloor fs → AllByRecursion (PutsInner vs bs) (flat_map floors_within fs) → All IsWide (map (put_floor vs bs) fs)
wide_put vs bs [] all h = All-nil IsWide
wide_put vs bs (f ∷ fs) all h =
    let within = (parts_inner vs bs f (recursion-left (PutsInner vs bs) (floors_within f) (flat_map floors_within fs) h)).form in
    let positive = (IsFloor-quotient f (All-head IsFloor f fs all)).positive in
    All-cons IsWide (put_floor vs bs f) (map (put_floor vs bs) fs)
    (record { positive = subst (λ (z : ℤ). pos 1 ≤ℤ z) (sym (by-put vs bs f)) positive; inner = subst (λ (q : Quasi). IsForm q) (sym (inner-put vs bs f)) within.form })
    (wide_put vs bs fs (All-tail IsFloor f fs all) (recursion-right (PutsInner vs bs) (floors_within f) (flat_map floors_within fs) h))

-- ---- the functions' steps

factor_apart : (b : Bool) (f g : ℤ) → cond b (f +ℤ g) g ≡ cond b (f +ℤ pos 0) (pos 0) +ℤ g
factor_apart true f g = omega (arith, ints)
factor_apart false f g = omega (arith, ints)

pub factor_next : (v : ℕ) (ts : List (ℕ × ℤ)) (i : ℕ) (d : ℕ × ℤ) (sum r made : ℤ) → i < length ts → r ≡ factor_of v (get_or ts i d ∷ []) → made ≡ sum +ℤ r → sum +ℤ factor_of v (drop i ts) ≡ factor_of v ts → made +ℤ factor_of v (drop (i + 1) ts) ≡ factor_of v ts
factor_next v ts i d sum r made within e m h =
    let split : drop i ts ≡ get_or ts i d ∷ drop (i + 1) ts = rw (add-one, drop-cons ts i d within) refl in
    let parts : factor_of v (drop i ts) ≡ factor_of v (get_or ts i d ∷ []) +ℤ factor_of v (drop (i + 1) ts) = ap (factor_of v) split ∙ factor_apart (nat_eq (get_or ts i d).0 v) (get_or ts i d).1 (factor_of v (drop (i + 1) ts)) in
    omega (arith, ints, e, m, h, parts)

pub put_floor_made : (vs : List ℕ) (bs : List Quasi) (f : Floor) (times by : ℤ) (inner : Quasi) → times ≡ (out-Floor f).times → inner ≡ put_form vs bs (out-Floor f).inner → by ≡ (out-Floor f).by → roll-Floor (record { times = times; inner = inner; by = by }) ≡ put_floor vs bs f
put_floor_made vs bs f times by inner t i b =
    ap (λ (z : ℤ). roll-Floor (record { times = z; inner = inner; by = by })) t
    ∙ (ap₂ (λ (q : Quasi) (z : ℤ). roll-Floor (record { times = (out-Floor f).times; inner = q; by = z })) i b ∙ sym (put_floor-out vs bs f))

pub parts_at_place : (P : Floor → Type 0) (fs : List Floor) (i : ℕ) (g : Floor) → i < length fs → g ≡ get_or fs i g → AllByRecursion P (flat_map floors_within fs) → AllByRecursion P (floors_within g)
parts_at_place P [] i g within is h = absurd (omega (arith, within))
parts_at_place P (f ∷ fs) zero g within is h = subst (λ (x : Floor). AllByRecursion P (floors_within x)) (sym is) (recursion-left P (floors_within f) (flat_map floors_within fs) h)
parts_at_place P (f ∷ fs) (suc i) g within is h = parts_at_place P fs i g (omega (arith, within)) is (recursion-right P (floors_within f) (flat_map floors_within fs) h)

-- the form with others put in, from its terms of other variables and its floors
pub part_rest : (vs : List ℕ) (bs : List Quasi) (a : Quasi) (ts : List (ℕ × ℤ)) (fs : List Floor) → IsForm a → ts ≡ filter (λ t. not (is_among vs t.0)) (out-Quasi a).terms → sum_by (λ f. unsigned_abs (out-Floor f).times) fs ≤ 2 ^ 63 → All IsWide fs →
    IsPart (roll-Quasi (record { constant = (out-Quasi a).constant; terms = ts; floors = fs }))
part_rest vs bs a ts fs h others factors wide =
    let q : Quasi = roll-Quasi (record { constant = (out-Quasi a).constant; terms = ts; floors = fs }) in
    let own : IsPart a = form_part a h in
    let constant : (out-Quasi q).constant ≡ (out-Quasi a).constant = simp out-roll-Quasi refl in
    let terms : (out-Quasi q).terms ≡ ts = simp out-roll-Quasi refl in
    let floors : (out-Quasi q).floors ≡ fs = simp out-roll-Quasi refl in
    let same = ap (sum_by (λ (t : ℕ × ℤ). unsigned_abs t.1)) (terms ∙ others) in
    record {
      constant = (let e = ap unsigned_abs constant in omega (arith, e, own.constant));
      terms = omega (arith, same, others_size vs (out-Quasi a).terms, own.terms);
      factors = (let e = ap (sum_by (λ (f : Floor). unsigned_abs (out-Floor f).times)) floors in omega (arith, e, factors));
      floors = subst (All IsWide) (sym floors) wide;
    }

-- the factors of what is put in, and of the rest
pub room_put : (vs : List ℕ) (bs : List Quasi) (a : Quasi) (ts : List (ℕ × ℤ)) → vars_differ vs ≡ true → IsForm a → ts ≡ (out-Quasi a).terms → weight (put_parts vs bs ts) + 1 ≤ 2 ^ 63 + 1
room_put vs bs a ts differ h e =
    let same = ap (sum_by (λ (t : ℕ × ℤ). unsigned_abs t.1)) e in
    omega (arith, same, weight-parts vs bs ts differ, form_terms a h)

pub room_over : (vs : List ℕ) (bs : List Quasi) (a rest : Quasi) (ts : List (ℕ × ℤ)) → vars_differ vs ≡ true → IsForm a → ts ≡ (out-Quasi a).terms → weight (put_parts vs bs ts ++ (pos 1, rest) ∷ []) + 0 ≤ 2 ^ 63 + 1
room_over vs bs a rest ts differ h e =
    omega (
      arith,
      room_put vs bs a ts differ h e,
      sum_by-append (λ (m : ℤ × Quasi). unsigned_abs m.0) (put_parts vs bs ts) ((pos 1, rest) ∷ []),
      sum_by-cons (λ (m : ℤ × Quasi). unsigned_abs m.0) (pos 1, rest) [],
    )

pub over_is : (vs : List ℕ) (bs : List Quasi) (a : Quasi) (fs : List Floor) (us ts others : List (ℕ × ℤ)) → us ≡ (out-Quasi a).terms → ts ≡ (out-Quasi a).terms → others ≡ filter (λ t. not (is_among vs t.0)) us →
    combined_form (put_parts vs bs ts ++ (pos 1, roll-Quasi (record { constant = (out-Quasi a).constant; terms = others; floors = fs })) ∷ []) ≡ put_over vs bs a fs
over_is vs bs a fs us ts others e f g =
    ap₂ (λ (xs ys : List (ℕ × ℤ)). combined_form (put_parts vs bs xs ++ (pos 1, roll-Quasi (record { constant = (out-Quasi a).constant; terms = ys; floors = fs })) ∷ [])) f
    (g ∙ ap (filter (λ (t : ℕ × ℤ). not (is_among vs t.0))) e)

pub put_form-over : (vs : List ℕ) (bs : List Quasi) (a : Quasi) (gs fs : List Floor) → gs ≡ (out-Quasi a).floors → fs ≡ map (put_floor vs bs) gs → put_over vs bs a fs ≡ put_form vs bs a
put_form-over vs bs a gs fs e f = ap (put_over vs bs a) (f ∙ ap (map (put_floor vs bs)) e) ∙ sym (put_form-out vs bs a)
