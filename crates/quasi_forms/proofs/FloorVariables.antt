-- The variables of floors: which numbers the rows give them.
use Rattle.std.proofs.Common.{◌≡◌, ℕ, zero, suc, ◌+◌, ◌<◌, ℤ, pos, negsuc, neg_ℤ, ◌+ℤ◌, ◌-ℤ◌, ◌*ℤ◌, ◌≤ℤ◌, Bool, true, false, not, cond, ◌&&◌, List, [], ◌∷◌, ◌++◌, map, arith, refl, sym, ap, ap₂, ◌∙◌, subst, All}
use Rattle.std.specs.Prelude.{flat_map}
use Rattle.std.specs.List.{filter, position_or_len, AllByRecursion}
use Rattle.std.specs.Int.{int_div_euclid}
use Rattle.std.specs.Ordering.{int_eq}
use Rattle.std.proofs.lemmas.Int.{ints}
use Rattle.std.proofs.lemmas.List.Elements.{All-head, All-tail}
use Rattle.affine_rows.specs.declared.row.Row.{Row}
use Rattle.affine_rows.specs.declared.quasi.Quasi.{Quasi, Quasi-F, roll-Quasi, out-Quasi, out-roll-Quasi, ind-Quasi}
use Rattle.affine_rows.specs.declared.quasi.Floor.{Floor, Floor-F, roll-Floor, out-Floor, out-roll-Floor}
use Rattle.affine_rows.specs.Rows.{Env, Holds, row_at, terms_at}
use Rattle.affine_rows.specs.Forms.{total, form_at, floor_at, IsForm, IsFloor}
use Rattle.affine_rows.proofs.Division.{floor_low, floor_high}
use Rattle.affine_rows.proofs.FormEquations.{form_at-out, IsFloor-by, IsFloor-inner, IsForm-floors}
use Rattle.affine_rows.proofs.Sums.{terms_at-append}
use Rattle.quasi_forms.specs.Alike.{same_form, same_floor, distinct}
use Rattle.quasi_forms.specs.Collected.{scaled_terms}
use Rattle.quasi_forms.specs.Limits.{floors_in, floors_within, floors_of}
use Rattle.quasi_forms.specs.Flattened.{floor_var, flat_terms, row_over, rest_terms, lower_row, upper_row, flat_row, defining_rows, all_defining_rows, floor_number, DefineFloors, HasValueOf}
use Rattle.quasi_forms.proofs.TermSums.{collected-at}
use Rattle.quasi_forms.proofs.FormValues.{floor_at-number, same-number, scaled-terms-at}
use Rattle.quasi_forms.proofs.FormLimits.{floors_in-out, floors_within-out}
use Rattle.quasi_forms.proofs.Likeness.{same_floor-by, same_floor-inner}
use Rattle.quasi_forms.proofs.Recursion.{recursion-left, recursion-right, recursion-append}
use Rattle.wrap_words.proofs.Ring.{atom, nat, plus, minus, negated, times, same, nonneg-cancel}

-- the variable has the floor's number
abbrev pub Known : ℕ → List Floor → Env → Floor → Type 0
Known width all env f = env (floor_var width all f) ≡ floor_number env f

-- the floor's rows hold
abbrev pub Defined : ℕ → List Floor → Env → Floor → Type 0
Defined width all env f = AllByRecursion (Holds env) (defining_rows width all f)

-- ---- values of rows

floors-value : (width : ℕ) (all : List Floor) (env : Env) (fs : List Floor) → AllByRecursion (Known width all env) fs →
    terms_at env (map (λ f. (floor_var width all f, (out-Floor f).times)) fs) ≡ total (map (floor_at env) fs)
floors-value width all env [] h = refl
floors-value width all env (f ∷ fs) h =
    ap₂ (λ (x y : ℤ). x +ℤ y) (ap (λ (z : ℤ). (out-Floor f).times *ℤ z) h.0 ∙ sym (floor_at-number env f)) (floors-value width all env fs h.1)

flat-value : (width : ℕ) (all : List Floor) (env : Env) (q : Quasi) → AllByRecursion (Known width all env) (out-Quasi q).floors → (out-Quasi q).constant +ℤ terms_at env (flat_terms width all q) ≡ form_at env q
flat-value width all env q h =
    let parts = terms_at-append env (out-Quasi q).terms (map (λ f. (floor_var width all f, (out-Floor f).times)) (out-Quasi q).floors) in
    omega (arith, ints, parts, floors-value width all env (out-Quasi q).floors h, form_at-out env q)

over-value : (env : Env) (c : ℤ) (ts : List (ℕ × ℤ)) → row_at env (row_over c ts) ≡ c +ℤ terms_at env ts
over-value env c ts = ap (λ (z : ℤ). c +ℤ z) (collected-at env ts)

-- ---- one division

spread : (c q x : ℤ) → c *ℤ (q +ℤ pos 1 -ℤ x) ≡ c *ℤ q +ℤ c -ℤ c *ℤ x
spread c q x = same (times (atom c) (minus (plus (atom q) (nat 1)) (atom x))) (minus (plus (times (atom c) (atom q)) (atom c)) (times (atom c) (atom x))) (omega arith)

neg_left : (c x : ℤ) → neg_ℤ c *ℤ x ≡ neg_ℤ (c *ℤ x)
neg_left c x = same (times (negated (atom c)) (atom x)) (negated (times (atom c) (atom x))) (omega arith)

positive-cancel : (c : ℕ) (b : ℤ) → 0 < c → pos 1 ≤ℤ (pos c *ℤ b) → pos 1 ≤ℤ b
positive-cancel c (pos zero) positive h = absurd (omega (arith, ints, h))
positive-cancel c (pos (suc n)) positive h = omega (arith, ints)
positive-cancel c (negsuc n) positive h = absurd (let low = nonneg-cancel c (negsuc n) positive (omega (arith, ints, h)) in omega (arith, ints, low))

-- e - c*x and c - 1 - (e - c*x) are at least 0 exactly where x is the quotient
between : (c : ℕ) (e x : ℤ) → 0 < c → pos 0 ≤ℤ (e +ℤ neg_ℤ (pos c) *ℤ x) → pos 0 ≤ℤ (pos c -ℤ pos 1 -ℤ (e +ℤ neg_ℤ (pos c) *ℤ x)) → x ≡ int_div_euclid e (pos c)
between c e x positive low high =
    let q : ℤ = int_div_euclid e (pos c) in
    let below = floor_low c e positive in
    let above = floor_high c e positive in
    let n = neg_left (pos c) x in
    let up : pos 1 ≤ℤ (q +ℤ pos 1 -ℤ x) = positive-cancel c (q +ℤ pos 1 -ℤ x) positive (let s = spread (pos c) q x in omega (arith, ints, s, n, above, low)) in
    let down : pos 1 ≤ℤ (x +ℤ pos 1 -ℤ q) = positive-cancel c (x +ℤ pos 1 -ℤ q) positive (let s = spread (pos c) x q in omega (arith, ints, s, n, below, high)) in
    omega (arith, ints, up, down)

quotient-between : (c : ℕ) (e x : ℤ) → 0 < c → x ≡ int_div_euclid e (pos c) → (pos 0 ≤ℤ (e +ℤ neg_ℤ (pos c) *ℤ x)) × (pos 0 ≤ℤ (pos c -ℤ pos 1 -ℤ (e +ℤ neg_ℤ (pos c) *ℤ x)))
quotient-between c e x positive is =
    let n = neg_left (pos c) x in
    let p = ap (λ (z : ℤ). pos c *ℤ z) is in
    (let low = floor_low c e positive in omega (arith, ints, low, n, p), let high = floor_high c e positive in omega (arith, ints, high, n, p))

between-by : (by e x : ℤ) → pos 1 ≤ℤ by → pos 0 ≤ℤ (e +ℤ neg_ℤ by *ℤ x) → pos 0 ≤ℤ (by -ℤ pos 1 -ℤ (e +ℤ neg_ℤ by *ℤ x)) → x ≡ int_div_euclid e by
between-by (pos c) e x positive low high = between c e x (omega (arith, ints, positive)) low high
between-by (negsuc n) e x positive low high = absurd (omega (arith, ints, positive))

quotient-by : (by e x : ℤ) → pos 1 ≤ℤ by → x ≡ int_div_euclid e by → (pos 0 ≤ℤ (e +ℤ neg_ℤ by *ℤ x)) × (pos 0 ≤ℤ (by -ℤ pos 1 -ℤ (e +ℤ neg_ℤ by *ℤ x)))
quotient-by (pos c) e x positive is = quotient-between c e x (omega (arith, ints, positive)) is
quotient-by (negsuc n) e x positive is = absurd (omega (arith, ints, positive))

-- ---- the rows of one floor

rest-value : (width : ℕ) (all : List Floor) (env : Env) (f : Floor) → AllByRecursion (Known width all env) (out-Quasi (out-Floor f).inner).floors →
    (out-Quasi (out-Floor f).inner).constant +ℤ terms_at env (rest_terms width all f) ≡ form_at env (out-Floor f).inner +ℤ neg_ℤ (out-Floor f).by *ℤ env (floor_var width all f)
rest-value width all env f h =
    let parts = terms_at-append env (flat_terms width all (out-Floor f).inner) ((floor_var width all f, neg_ℤ (out-Floor f).by) ∷ []) in
    omega (arith, ints, parts, flat-value width all env (out-Floor f).inner h)

lower-value : (width : ℕ) (all : List Floor) (env : Env) (f : Floor) → AllByRecursion (Known width all env) (out-Quasi (out-Floor f).inner).floors →
    row_at env (lower_row width all f) ≡ form_at env (out-Floor f).inner +ℤ neg_ℤ (out-Floor f).by *ℤ env (floor_var width all f)
lower-value width all env f h = over-value env (out-Quasi (out-Floor f).inner).constant (rest_terms width all f) ∙ rest-value width all env f h

upper-value : (width : ℕ) (all : List Floor) (env : Env) (f : Floor) → AllByRecursion (Known width all env) (out-Quasi (out-Floor f).inner).floors →
    row_at env (upper_row width all f) ≡ (out-Floor f).by -ℤ pos 1 -ℤ (form_at env (out-Floor f).inner +ℤ neg_ℤ (out-Floor f).by *ℤ env (floor_var width all f))
upper-value width all env f h =
    let whole = over-value env ((out-Floor f).by -ℤ pos 1 -ℤ (out-Quasi (out-Floor f).inner).constant) (scaled_terms (neg_ℤ (pos 1)) (rest_terms width all f)) in
    let scaled = scaled-terms-at env (neg_ℤ (pos 1)) (rest_terms width all f) in
    omega (arith, ints, whole, scaled, rest-value width all env f h)

defined-known : (width : ℕ) (all : List Floor) (env : Env) (f : Floor) → pos 1 ≤ℤ (out-Floor f).by → AllByRecursion (Known width all env) (out-Quasi (out-Floor f).inner).floors → Defined width all env f → Known width all env f
unfolding defining_rows
defined-known width all env f positive h d =
    between-by (out-Floor f).by (form_at env (out-Floor f).inner) (env (floor_var width all f)) positive
    (subst (λ (z : ℤ). pos 0 ≤ℤ z) (lower-value width all env f h) d.0) (subst (λ (z : ℤ). pos 0 ≤ℤ z) (upper-value width all env f h) d.1.0)

known-defined : (width : ℕ) (all : List Floor) (env : Env) (f : Floor) → pos 1 ≤ℤ (out-Floor f).by → AllByRecursion (Known width all env) (out-Quasi (out-Floor f).inner).floors → Known width all env f → Defined width all env f
unfolding defining_rows
known-defined width all env f positive h k =
    let both = quotient-by (out-Floor f).by (form_at env (out-Floor f).inner) (env (floor_var width all f)) positive k in
    (subst (λ (z : ℤ). pos 0 ≤ℤ z) (sym (lower-value width all env f h)) both.0, (subst (λ (z : ℤ). pos 0 ≤ℤ z) (sym (upper-value width all env f h)) both.1, tt))

-- ---- all floors of a form, from the inside

-- a floor is among those in it
pub direct : (P : Floor → Type 0) (fs : List Floor) → AllByRecursion P (flat_map floors_within fs) → AllByRecursion P fs
direct P [] h = tt
direct P (f ∷ fs) h =
    let here = subst (AllByRecursion P) (floors_within-out f) (recursion-left P (floors_within f) (flat_map floors_within fs) h) in
    ((recursion-right P (floors_in (out-Floor f).inner) (f ∷ []) here).0, direct P fs (recursion-right P (floors_within f) (flat_map floors_within fs) h))

abbrev Agree : ℕ → List Floor → Env → List Floor → Type 0
Agree width all env fs = (AllByRecursion (Defined width all env) fs → AllByRecursion (Known width all env) fs) × (AllByRecursion (Known width all env) fs → AllByRecursion (Defined width all env) fs)

abbrev FloorAgrees : ℕ → List Floor → Env → Floor → Type 0
FloorAgrees width all env f = IsFloor f → Agree width all env (floors_within f)

abbrev FormAgrees : ℕ → List Floor → Env → Quasi → Type 0
FormAgrees width all env q = IsForm q → Agree width all env (floors_in q)

floor_agrees : (width : ℕ) (all : List Floor) (env : Env) (f : Floor) → FormAgrees width all env (out-Floor f).inner → FloorAgrees width all env f
floor_agrees width all env f inner h =
    let e : Quasi = (out-Floor f).inner in
    let agree = inner (IsFloor-inner f h) in
    let whole = floors_within-out f in (
      λ d.
          let parts = subst (AllByRecursion (Defined width all env)) whole d in
          let under = agree.0 (recursion-left (Defined width all env) (floors_in e) (f ∷ []) parts) in
          let here = defined-known width all env f (IsFloor-by f h) (direct (Known width all env) (out-Quasi e).floors (subst (AllByRecursion (Known width all env)) (floors_in-out e) under)) (recursion-right (Defined width all env) (floors_in e) (f ∷ []) parts).0 in
          subst (AllByRecursion (Known width all env)) (sym whole) (recursion-append (Known width all env) (floors_in e) (f ∷ []) under (here, tt)),
      λ k.
          let parts = subst (AllByRecursion (Known width all env)) whole k in
          let under = recursion-left (Known width all env) (floors_in e) (f ∷ []) parts in
          let here = known-defined width all env f (IsFloor-by f h) (direct (Known width all env) (out-Quasi e).floors (subst (AllByRecursion (Known width all env)) (floors_in-out e) under)) (recursion-right (Known width all env) (floors_in e) (f ∷ []) parts).0 in
          subst (AllByRecursion (Defined width all env)) (sym whole) (recursion-append (Defined width all env) (floors_in e) (f ∷ []) (agree.1 under) (here, tt)),
    )

floors_agree : (width : ℕ) (all : List Floor) (env : Env) (es : List ((f : Floor) × FloorAgrees width all env f)) → All IsFloor (map (λ e. e.0) es) → Agree width all env (flat_map floors_within (map (λ e. e.0) es))
floors_agree width all env [] h = (λ d. tt, λ k. tt)
floors_agree width all env (e ∷ es) h =
    let here = e.1 (All-head IsFloor e.0 (map (λ e. e.0) es) h) in
    let rest = floors_agree width all env es (All-tail IsFloor e.0 (map (λ e. e.0) es) h) in
    let others : List Floor = flat_map floors_within (map (λ e. e.0) es) in (
      λ d. recursion-append (Known width all env) (floors_within e.0) others (here.0 (recursion-left (Defined width all env) (floors_within e.0) others d)) (rest.0 (recursion-right (Defined width all env) (floors_within e.0) others d)),
      λ k. recursion-append (Defined width all env) (floors_within e.0) others (here.1 (recursion-left (Known width all env) (floors_within e.0) others k)) (rest.1 (recursion-right (Known width all env) (floors_within e.0) others k)),
    )

floor_case : (width : ℕ) (all : List Floor) (env : Env) (y : Floor-F ((f : Floor) × FloorAgrees width all env f) ((q : Quasi) × FormAgrees width all env q)) → FloorAgrees width all env (roll-Floor (record { times = y.times; inner = y.inner.0; by = y.by }))
floor_case width all env y =
    floor_agrees width all env (roll-Floor (record { times = y.times; inner = y.inner.0; by = y.by })) (subst (λ (l : Floor-F Floor Quasi). FormAgrees width all env l.inner) (sym (out-roll-Floor (record { times = y.times; inner = y.inner.0; by = y.by }))) y.inner.1)

form_case : (width : ℕ) (all : List Floor) (env : Env) (y : Quasi-F ((f : Floor) × FloorAgrees width all env f) ((q : Quasi) × FormAgrees width all env q)) → FormAgrees width all env (roll-Quasi (record { constant = y.constant; terms = y.terms; floors = map (λ e. e.0) y.floors }))
form_case width all env y h =
    let q : Quasi = roll-Quasi (record { constant = y.constant; terms = y.terms; floors = map (λ e. e.0) y.floors }) in
    let floors : (out-Quasi q).floors ≡ map (λ e. e.0) y.floors = ap (λ (l : Quasi-F Floor Quasi). l.floors) (out-roll-Quasi (record { constant = y.constant; terms = y.terms; floors = map (λ e. e.0) y.floors })) in
    subst (Agree width all env) (sym (floors_in-out q ∙ ap (flat_map floors_within) floors)) (floors_agree width all env y.floors (subst (All IsFloor) floors (IsForm-floors q h)))

agrees : (width : ℕ) (all : List Floor) (env : Env) (q : Quasi) → FormAgrees width all env q
agrees width all env =
    ind-Quasi (FloorAgrees width all env) (FormAgrees width all env) (λ x y is. subst (λ z. FloorAgrees width all env (roll-Floor z)) is (floor_case width all env y)) (λ x y is. subst (λ z. FormAgrees width all env (roll-Quasi z)) is (form_case width all env y))

-- ---- those that are different stand for all

filter_all : (P : Floor → Type 0) (p : Floor → Bool) (fs : List Floor) → AllByRecursion P fs → AllByRecursion P (filter p fs)
filter_all P p [] h = tt
filter_all P p (f ∷ fs) h =
    elim (p f) as (λ b. AllByRecursion P (cond b (f ∷ filter p fs) (filter p fs))) [
      | true ↦ (h.0, filter_all P p fs h.1)
      | false ↦ filter_all P p fs h.1
    ]

pub distinct_all : (P : Floor → Type 0) (fs : List Floor) → AllByRecursion P fs → AllByRecursion P (distinct same_floor fs)
distinct_all P [] h = tt
distinct_all P (f ∷ fs) h = (h.0, filter_all P (λ g. not (same_floor f g)) (distinct same_floor fs) (distinct_all P fs h.1))

unfiltered : (P : Floor → Type 0) → ((f g : Floor) → same_floor f g ≡ true → P f → P g) → (f : Floor) (fs : List Floor) → P f → AllByRecursion P (filter (λ g. not (same_floor f g)) fs) → AllByRecursion P fs
unfiltered P respects f [] h all = tt
unfiltered P respects f (g ∷ gs) h all =
    (elim (same_floor f g) as (λ b. same_floor f g ≡ b → AllByRecursion P (cond (not b) (g ∷ filter (λ x. not (same_floor f x)) gs) (filter (λ x. not (same_floor f x)) gs)) → AllByRecursion P (g ∷ gs)) [
      | true ↦ (λ e k. (respects f g e h, unfiltered P respects f gs h k))
      | false ↦ (λ e k. (k.0, unfiltered P respects f gs h k.1))
    ]) refl all

pub all_distinct : (P : Floor → Type 0) → ((f g : Floor) → same_floor f g ≡ true → P f → P g) → (fs : List Floor) → AllByRecursion P (distinct same_floor fs) → AllByRecursion P fs
all_distinct P respects [] h = tt
all_distinct P respects (f ∷ fs) h = (h.0, all_distinct P respects fs (unfiltered P respects f (distinct same_floor fs) h.0 h.1))

var-same : (width : ℕ) (all : List Floor) (f g : Floor) → same_floor f g ≡ true → floor_var width all f ≡ floor_var width all g
unfolding same_floor
var-same width all f g h =
    ap₂ (λ (z : ℤ) (q : Quasi). width + position_or_len (λ x. int_eq z (out-Floor x).by && same_form q (out-Floor x).inner) all) (same_floor-by f g h) (same_floor-inner f g h)

known_same : (width : ℕ) (all : List Floor) (env : Env) (f g : Floor) → same_floor f g ≡ true → Known width all env f → Known width all env g
known_same width all env f g h k = ap env (sym (var-same width all f g h)) ∙ (k ∙ same-number env f g h)

rows-same : (width : ℕ) (all : List Floor) (f g : Floor) → same_floor f g ≡ true → defining_rows width all f ≡ defining_rows width all g
unfolding defining_rows
rows-same width all f g h =
    let made : Quasi → ℤ → ℕ → List Row = λ q z v.
    row_over (out-Quasi q).constant (flat_terms width all q ++ (v, neg_ℤ z) ∷ [])
    ∷ row_over (z -ℤ pos 1 -ℤ (out-Quasi q).constant) (scaled_terms (neg_ℤ (pos 1)) (flat_terms width all q ++ (v, neg_ℤ z) ∷ [])) ∷ [] in
    ap₂ (λ (q : Quasi) (z : ℤ). made q z (floor_var width all f)) (same_floor-inner f g h) (same_floor-by f g h) ∙ ap (λ (v : ℕ). made (out-Floor g).inner (out-Floor g).by v) (var-same width all f g h)

defined_same : (width : ℕ) (all : List Floor) (env : Env) (f g : Floor) → same_floor f g ≡ true → Defined width all env f → Defined width all env g
defined_same width all env f g h d = subst (AllByRecursion (Holds env)) (rows-same width all f g h) d

-- ---- the laws

rows_each : (width : ℕ) (all : List Floor) (env : Env) (fs : List Floor) → AllByRecursion (Holds env) (flat_map (defining_rows width all) fs) → AllByRecursion (Defined width all env) fs
rows_each width all env [] h = tt
rows_each width all env (f ∷ fs) h = (recursion-left (Holds env) (defining_rows width all f) (flat_map (defining_rows width all) fs) h, rows_each width all env fs (recursion-right (Holds env) (defining_rows width all f) (flat_map (defining_rows width all) fs) h))

each_rows : (width : ℕ) (all : List Floor) (env : Env) (fs : List Floor) → AllByRecursion (Defined width all env) fs → AllByRecursion (Holds env) (flat_map (defining_rows width all) fs)
each_rows width all env [] h = tt
each_rows width all env (f ∷ fs) h = recursion-append (Holds env) (defining_rows width all f) (flat_map (defining_rows width all) fs) h.0 (each_rows width all env fs h.1)

pub define-floors : (width : ℕ) (q : Quasi) → IsForm q → DefineFloors width q (all_defining_rows width q)
unfolding all_defining_rows
define-floors width q h env =
    let all : List Floor = floors_of q in
    let agree = agrees width all env q h in (
      λ rows. distinct_all (Known width all env) (floors_in q) (agree.0 (all_distinct (Defined width all env) (defined_same width all env) (floors_in q) (rows_each width all env all rows))),
      λ known. each_rows width all env all (distinct_all (Defined width all env) (floors_in q) (agree.1 (all_distinct (Known width all env) (known_same width all env) (floors_in q) known))),
    )

pub has-value : (width : ℕ) (q : Quasi) → HasValueOf width q (flat_row width (floors_of q) q)
unfolding flat_row
has-value width q env known =
    over-value env (out-Quasi q).constant (flat_terms width (floors_of q) q)
    ∙ flat-value width (floors_of q) env q (direct (Known width (floors_of q) env) (out-Quasi q).floors (subst (AllByRecursion (Known width (floors_of q) env)) (floors_in-out q) (all_distinct (Known width (floors_of q) env) (known_same width (floors_of q) env) (floors_in q) known)))
