-- Forms as rows, as they are made.
use Rattle.std.proofs.Common.{◌≡◌, ℕ, zero, suc, ◌+◌, ◌*◌, ◌^◌, ◌<◌, ◌≤◌, ℤ, pos, neg_ℤ, ◌*ℤ◌, Bool, true, false, not, ◌&&◌, List, [], ◌∷◌, ◌++◌, map, length, get_or, arith, refl, sym, ap, ap₂, ◌∙◌, subst, unsigned_abs, sum_by, append_assoc}
use Rattle.std.specs.Prelude.{flat_map}
use Rattle.std.specs.List.{list_all, position_or_len}
use Rattle.std.specs.Ordering.{int_eq}
use Rattle.std.proofs.lemmas.Int.{ints}
use Rattle.std.proofs.lemmas.List.Folds.{list_all-append}
use Rattle.std.proofs.lemmas.List.Sums.{sum_by-cons, sum_by-append, prefix_len-le-length}
use Rattle.affine_rows.specs.declared.row.Row.{Row}
use Rattle.affine_rows.specs.declared.quasi.Quasi.{Quasi, out-Quasi}
use Rattle.affine_rows.specs.declared.quasi.Floor.{Floor, out-Floor}
use Rattle.affine_rows.specs.Forms.{IsForm}
use Rattle.affine_rows.specs.Reduced.{fits_entry, fits_row}
use Rattle.affine_rows.proofs.Combining.{and_false}
use Rattle.affine_rows.proofs.FormEquations.{form_terms, IsForm-small}
use Rattle.quasi_forms.specs.Alike.{same_form, same_floor}
use Rattle.quasi_forms.specs.Collected.{IsWide, collected_terms, scaled_terms}
use Rattle.quasi_forms.specs.Limits.{floors_of}
use Rattle.quasi_forms.specs.Flattened.{floor_var, flat_terms, row_over, flat_row, rest_terms, lower_row, upper_row, defining_rows, all_defining_rows, rows_fit}
use Rattle.quasi_forms.proofs.SumLimits.{scaled-size}

-- ---- terms

pub var_is : (width : ℕ) (fs : List Floor) (f : Floor) (inner : Quasi) (by : ℤ) (n : ℕ) → inner ≡ (out-Floor f).inner → by ≡ (out-Floor f).by →
    n ≡ width + position_or_len (λ g. int_eq by (out-Floor g).by && same_form inner (out-Floor g).inner) fs → n ≡ floor_var width fs f
unfolding same_floor
var_is width fs f inner by n i b e = e ∙ ap₂ (λ (q : Quasi) (z : ℤ). width + position_or_len (λ g. int_eq z (out-Floor g).by && same_form q (out-Floor g).inner) fs) i b

pub var_small : (p : Floor → Bool) (fs : List Floor) (width n : ℕ) → n ≡ position_or_len p fs → width + length fs ≤ 128 → width + n ≤ 128
var_small p fs width n e small = omega (arith, e, prefix_len-le-length (λ x. not (p x)) fs)

pub term_added : (old made : List (ℕ × ℤ)) (n v : ℕ) (x y : ℤ) → n ≡ v → x ≡ y → made ≡ old ++ (n, x) ∷ [] → made ≡ old ++ (v, y) ∷ []
term_added old made n v x y e f m = m ∙ ap₂ (λ (k : ℕ) (z : ℤ). old ++ (k, z) ∷ []) e f

scaled-append : (p : ℤ) (ts us : List (ℕ × ℤ)) → scaled_terms p (ts ++ us) ≡ scaled_terms p ts ++ scaled_terms p us
scaled-append p [] us = refl
scaled-append p (t ∷ ts) us = ap (λ (xs : List (ℕ × ℤ)). (t.0, p *ℤ t.1) ∷ xs) (scaled-append p ts us)

scaled-floors : (width : ℕ) (all : List Floor) (p : ℤ) (fs : List Floor) → scaled_terms p (map (λ f. (floor_var width all f, (out-Floor f).times)) fs) ≡ map (λ f. (floor_var width all f, p *ℤ (out-Floor f).times)) fs
scaled-floors width all p [] = refl
scaled-floors width all p (f ∷ fs) = ap (λ (xs : List (ℕ × ℤ)). (floor_var width all f, p *ℤ (out-Floor f).times) ∷ xs) (scaled-floors width all p fs)

pub flat_is : (width : ℕ) (fs : List Floor) (p : ℤ) (q : Quasi) (start first made terms : List (ℕ × ℤ)) (floors : List Floor) → start ≡ [] → terms ≡ (out-Quasi q).terms → floors ≡ (out-Quasi q).floors →
    first ≡ start ++ scaled_terms p terms → made ≡ first ++ map (λ f. (floor_var width fs f, p *ℤ (out-Floor f).times)) floors → made ≡ scaled_terms p (flat_terms width fs q)
flat_is width fs p q start first made terms floors none t f e m =
    m ∙ (ap₂ (λ (xs : List (ℕ × ℤ)) (gs : List Floor). xs ++ map (λ f. (floor_var width fs f, p *ℤ (out-Floor f).times)) gs) (e ∙ ap₂ (λ (xs ys : List (ℕ × ℤ)). xs ++ scaled_terms p ys) none t) f
    ∙ (ap (λ (xs : List (ℕ × ℤ)). scaled_terms p (out-Quasi q).terms ++ xs) (sym (scaled-floors width fs p (out-Quasi q).floors)) ∙ sym (scaled-append p (out-Quasi q).terms (map (λ f. (floor_var width fs f, (out-Floor f).times)) (out-Quasi q).floors))))

pub rest_is : (width : ℕ) (fs : List Floor) (p : ℤ) (f : Floor) (inner : Quasi) (terms made : List (ℕ × ℤ)) (n : ℕ) (x : ℤ) → inner ≡ (out-Floor f).inner → terms ≡ scaled_terms p (flat_terms width fs inner) →
    n ≡ floor_var width fs f → x ≡ p *ℤ neg_ℤ (out-Floor f).by → made ≡ terms ++ (n, x) ∷ [] → made ≡ scaled_terms p (rest_terms width fs f)
rest_is width fs p f inner terms made n x i t v e m =
    m ∙ (ap₂ (λ (k : ℕ) (z : ℤ). terms ++ (k, z) ∷ []) v e
    ∙ (ap (λ (xs : List (ℕ × ℤ)). xs ++ (floor_var width fs f, p *ℤ neg_ℤ (out-Floor f).by) ∷ []) (t ∙ ap (λ (q : Quasi). scaled_terms p (flat_terms width fs q)) i)
    ∙ sym (scaled-append p (flat_terms width fs (out-Floor f).inner) ((floor_var width fs f, neg_ℤ (out-Floor f).by) ∷ []))))

scaled-once : (ts : List (ℕ × ℤ)) → scaled_terms (pos 1) ts ≡ ts
scaled-once [] = refl
scaled-once (t ∷ ts) = ap₂ (λ (z : ℤ) (us : List (ℕ × ℤ)). (t.0, z) ∷ us) (let e : pos 1 *ℤ t.1 ≡ t.1 = omega (arith, ints) in e) (scaled-once ts)

-- ---- sizes

floors-size : (width : ℕ) (all fs : List Floor) → sum_by (λ (t : ℕ × ℤ). unsigned_abs t.1) (map (λ f. (floor_var width all f, (out-Floor f).times)) fs) ≡ sum_by (λ f. unsigned_abs (out-Floor f).times) fs
floors-size width all [] = refl
floors-size width all (f ∷ fs) =
    omega (arith, floors-size width all fs, sum_by-cons (λ (t : ℕ × ℤ). unsigned_abs t.1) (floor_var width all f, (out-Floor f).times) (map (λ g. (floor_var width all g, (out-Floor g).times)) fs), sum_by-cons (λ (g : Floor). unsigned_abs (out-Floor g).times) f fs)

flat_size : (width : ℕ) (fs : List Floor) (q : Quasi) → IsForm q → sum_by (λ t. unsigned_abs t.1) (flat_terms width fs q) ≤ 2 ^ 62 + 2 ^ 63
flat_size width fs q h =
    let whole = sum_by-append (λ (t : ℕ × ℤ). unsigned_abs t.1) (out-Quasi q).terms (map (λ f. (floor_var width fs f, (out-Floor f).times)) (out-Quasi q).floors) in
    omega (arith, whole, floors-size width fs (out-Quasi q).floors, form_terms q h, (IsForm-small q h).factors)

pub flat_small : (width : ℕ) (fs : List Floor) (q : Quasi) (ts : List (ℕ × ℤ)) → IsForm q → ts ≡ scaled_terms (pos 1) (flat_terms width fs q) → sum_by (λ t. unsigned_abs t.1) ts ≤ 2 ^ 126
flat_small width fs q ts h e =
    let whole = ap (sum_by (λ (t : ℕ × ℤ). unsigned_abs t.1)) (e ∙ scaled-once (flat_terms width fs q)) in
    omega (arith, whole, flat_size width fs q h)

pub rest_small : (width : ℕ) (fs : List Floor) (p : ℤ) (f : Floor) (ts : List (ℕ × ℤ)) → unsigned_abs p ≡ 1 → IsWide f → unsigned_abs (out-Floor f).by ≤ 2 ^ 63 → ts ≡ scaled_terms p (rest_terms width fs f) → sum_by (λ t. unsigned_abs t.1) ts ≤ 2 ^ 126
rest_small width fs p f ts one wide by e =
    let whole = ap (sum_by (λ (t : ℕ × ℤ). unsigned_abs t.1)) e in
    let all = scaled-size p (rest_terms width fs f) in
    let unit : unsigned_abs p * sum_by (λ t. unsigned_abs t.1) (rest_terms width fs f) ≡ sum_by (λ t. unsigned_abs t.1) (rest_terms width fs f) = ap (λ (n : ℕ). n * sum_by (λ (t : ℕ × ℤ). unsigned_abs t.1) (rest_terms width fs f)) one ∙ omega arith in
    let parts = sum_by-append (λ (t : ℕ × ℤ). unsigned_abs t.1) (flat_terms width fs (out-Floor f).inner) ((floor_var width fs f, neg_ℤ (out-Floor f).by) ∷ []) in
    let size : unsigned_abs (neg_ℤ (out-Floor f).by) ≤ 2 ^ 63 = omega (arith, ints, by) in
    omega (arith, whole, all, unit, parts, size, flat_size width fs (out-Floor f).inner wide.inner)

-- ---- one row

pub fits_over : (c : ℤ) (ts : List (ℕ × ℤ)) → fits_entry c ≡ true → list_all (λ t. fits_entry t.1) (collected_terms ts) ≡ true → fits_row (row_over c ts) ≡ true
unfolding fits_row
fits_over c ts h k = ap₂ (λ (a b : Bool). a && b) h k

pub wide_constant_over : (c : ℤ) (ts : List (ℕ × ℤ)) → fits_entry c ≡ false → fits_row (row_over c ts) ≡ false
unfolding fits_row
wide_constant_over c ts h = ap (λ (a : Bool). a && list_all (λ t. fits_entry t.1) (collected_terms ts)) h

pub wide_terms_over : (c : ℤ) (ts : List (ℕ × ℤ)) → list_all (λ t. fits_entry t.1) (collected_terms ts) ≡ false → fits_row (row_over c ts) ≡ false
unfolding fits_row
wide_terms_over c ts h = ap (λ (b : Bool). fits_entry c && b) h ∙ and_false (fits_entry c)

pub lower_is : (width : ℕ) (fs : List Floor) (f : Floor) (inner : Quasi) (k : ℤ) (ts : List (ℕ × ℤ)) → inner ≡ (out-Floor f).inner → k ≡ pos 1 *ℤ (out-Quasi inner).constant → ts ≡ scaled_terms (pos 1) (rest_terms width fs f) → row_over k ts ≡ lower_row width fs f
lower_is width fs f inner k ts i e t =
    let constant : k ≡ (out-Quasi (out-Floor f).inner).constant = e ∙ (let once : pos 1 *ℤ (out-Quasi inner).constant ≡ (out-Quasi inner).constant = omega (arith, ints) in once ∙ ap (λ (q : Quasi). (out-Quasi q).constant) i) in
    ap₂ (λ (z : ℤ) (us : List (ℕ × ℤ)). row_over z us) constant (t ∙ scaled-once (rest_terms width fs f))

pub flat_row_is : (q p : Quasi) (width : ℕ) (all fs : List Floor) (k : ℤ) (ts : List (ℕ × ℤ)) → p ≡ q → fs ≡ all → k ≡ pos 1 *ℤ (out-Quasi p).constant → ts ≡ scaled_terms (pos 1) (flat_terms width fs p) → row_over k ts ≡ flat_row width all q
unfolding flat_row
flat_row_is q p width all fs k ts same floors e t =
    let constant : k ≡ (out-Quasi q).constant = e ∙ (let once : pos 1 *ℤ (out-Quasi p).constant ≡ (out-Quasi p).constant = omega (arith, ints) in once ∙ ap (λ (r : Quasi). (out-Quasi r).constant) same) in
    ap₂ (λ (z : ℤ) (us : List (ℕ × ℤ)). row_over z us) constant (t ∙ (scaled-once (flat_terms width fs p) ∙ ap₂ (λ (gs : List Floor) (r : Quasi). flat_terms width gs r) floors same))

-- ---- the rows of all floors

pub rows_added : (width : ℕ) (fs : List Floor) (f : Floor) (old first made : List Row) (lower upper : Row) → lower ≡ lower_row width fs f → upper ≡ upper_row width fs f → first ≡ old ++ lower ∷ [] → made ≡ first ++ upper ∷ [] → made ≡ old ++ defining_rows width fs f
unfolding defining_rows
rows_added width fs f old first made lower upper l u e m =
    m ∙ (ap₂ (λ (xs : List Row) (r : Row). xs ++ r ∷ []) (e ∙ ap (λ (r : Row). old ++ r ∷ []) l) u ∙ append_assoc old (lower_row width fs f ∷ []) (upper_row width fs f ∷ []))

pub rows_within : (width : ℕ) (fs : List Floor) (f : Floor) → fits_row (lower_row width fs f) ≡ true → fits_row (upper_row width fs f) ≡ true → list_all fits_row (defining_rows width fs f) ≡ true
unfolding defining_rows
rows_within width fs f h k = ap₂ (λ (a b : Bool). a && (b && true)) h k

pub lower_fails : (width : ℕ) (fs : List Floor) (f : Floor) → fits_row (lower_row width fs f) ≡ false → list_all fits_row (defining_rows width fs f) ≡ false
unfolding defining_rows
lower_fails width fs f h = ap (λ (a : Bool). a && (fits_row (upper_row width fs f) && true)) h

pub upper_fails : (width : ℕ) (fs : List Floor) (f : Floor) → fits_row (upper_row width fs f) ≡ false → list_all fits_row (defining_rows width fs f) ≡ false
unfolding defining_rows
upper_fails width fs f h = ap (λ (b : Bool). fits_row (lower_row width fs f) && (b && true)) h ∙ and_false (fits_row (lower_row width fs f))

-- what fails at one place fails at all
pub flat_fails : (rows : Floor → List Row) (fs : List Floor) (i : ℕ) (f : Floor) → i < length fs → f ≡ get_or fs i f → list_all fits_row (rows f) ≡ false → list_all fits_row (flat_map rows fs) ≡ false
flat_fails rows [] i f within is h = absurd (omega arith)
flat_fails rows (g ∷ gs) zero f within is h =
    list_all-append fits_row (rows g) (flat_map rows gs) ∙ ap (λ (a : Bool). a && list_all fits_row (flat_map rows gs)) (subst (λ (x : Floor). list_all fits_row (rows x) ≡ false) is h)
flat_fails rows (g ∷ gs) (suc i) f within is h =
    list_all-append fits_row (rows g) (flat_map rows gs) ∙ (ap (λ (b : Bool). list_all fits_row (rows g) && b) (flat_fails rows gs i f (omega arith) is h) ∙ and_false (list_all fits_row (rows g)))

-- ---- all of them

pub all_is : (width : ℕ) (q : Quasi) (fs : List Floor) → fs ≡ floors_of q → flat_map (defining_rows width fs) fs ≡ all_defining_rows width q
unfolding all_defining_rows
all_is width q fs is = ap (λ (gs : List Floor). flat_map (defining_rows width gs) gs) is

pub rows_fit-is : (width : ℕ) (q : Quasi) → fits_row (flat_row width (floors_of q) q) ≡ true → list_all fits_row (all_defining_rows width q) ≡ true → rows_fit width q ≡ true
rows_fit-is width q h k = ap₂ (λ (a b : Bool). a && b) h k

pub rows_fit-row : (width : ℕ) (q : Quasi) → fits_row (flat_row width (floors_of q) q) ≡ false → rows_fit width q ≡ false
rows_fit-row width q h = ap (λ (a : Bool). a && list_all fits_row (all_defining_rows width q)) h

pub rows_fit-defining : (width : ℕ) (q : Quasi) → list_all fits_row (all_defining_rows width q) ≡ false → rows_fit width q ≡ false
rows_fit-defining width q h = ap (λ (b : Bool). fits_row (flat_row width (floors_of q) q) && b) h ∙ and_false (fits_row (flat_row width (floors_of q) q))
