-- Forms that are the same are equal.
use Rattle.std.proofs.Common.{◌≡◌, ◌≢◌, ℕ, ℤ, Bool, true, false, ◌&&◌, nat_eq, List, [], ◌∷◌, map, length, arith, refl, sym, ap, ap₂, ◌∙◌, subst}
use Rattle.std.specs.Ordering.{int_eq}
use Rattle.std.proofs.lemmas.Bool.Decides.{Decides-int_eq, nat_tests}
use Rattle.affine_rows.specs.declared.quasi.Quasi.{Quasi, Quasi-F, roll-Quasi, out-Quasi, roll-out-Quasi, out-roll-Quasi, fold-roll-Quasi, ind-Quasi}
use Rattle.affine_rows.specs.declared.quasi.Floor.{Floor, Floor-F, roll-Floor, out-Floor, roll-out-Floor, out-roll-Floor, fold-roll-Floor}
use Rattle.quasi_forms.specs.Alike.{all_pass, same_terms, floor_test, form_test, same_form, same_factored, same_floor}

and_false : (a b : Bool) → false ≡ b → false ≡ (a && b)
and_false true b h = h
and_false false b h = refl

pub both : (a b : Bool) → (a && b) ≡ true → (a ≡ true) × (b ≡ true)
both true b h = (refl, h)
both false b h = absurd (let no : false ≡ true = h in cc)

pub all_pass-long : {X : Type 0} (ts : List (X → Bool)) (xs : List X) → length ts ≢ length xs → false ≡ all_pass ts xs
all_pass-long [] [] other = absurd (other refl)
all_pass-long [] (x ∷ xs) other = refl
all_pass-long (t ∷ ts) [] other = refl
all_pass-long (t ∷ ts) (x ∷ xs) other = and_false (t x) (all_pass ts xs) (all_pass-long ts xs (λ e. other (omega (arith, e))))

pair_same : (t u : ℕ × ℤ) → nat_eq t.0 u.0 ≡ true → int_eq t.1 u.1 ≡ true → t ≡ u
pair_same t u v f = ap₂ (λ (n : ℕ) (z : ℤ). (n, z)) (grind (arith, nat_tests)) ((Decides-int_eq t.1 u.1).0 f)

terms_same : (ts us : List (ℕ × ℤ)) → same_terms ts us ≡ true → ts ≡ us
terms_same [] [] h = refl
terms_same [] (u ∷ us) h = absurd (let no : false ≡ true = h in cc)
terms_same (t ∷ ts) [] h = absurd (let no : false ≡ true = h in cc)
terms_same (t ∷ ts) (u ∷ us) h =
    let parts = both (nat_eq t.0 u.0 && int_eq t.1 u.1) (same_terms ts us) h in
    let head = both (nat_eq t.0 u.0) (int_eq t.1 u.1) parts.0 in
    ap₂ (λ (x : ℕ × ℤ) (xs : List (ℕ × ℤ)). x ∷ xs) (pair_same t u head.0 head.1) (terms_same ts us parts.1)

abbrev FloorSame : Floor → Type 0
FloorSame f = (g : Floor) → same_factored f g ≡ true → f ≡ g

abbrev FormSame : Quasi → Type 0
FormSame q = (r : Quasi) → same_form q r ≡ true → q ≡ r

floors_same : (fs : List ((f : Floor) × FloorSame f)) (gs : List Floor) → all_pass (map same_factored (map (λ e. e.0) fs)) gs ≡ true → map (λ e. e.0) fs ≡ gs
floors_same [] [] h = refl
floors_same [] (g ∷ gs) h = absurd (let no : false ≡ true = h in cc)
floors_same (f ∷ fs) [] h = absurd (let no : false ≡ true = h in cc)
floors_same (f ∷ fs) (g ∷ gs) h =
    let parts = both (same_factored f.0 g) (all_pass (map same_factored (map (λ e. e.0) fs)) gs) h in
    ap₂ (λ (x : Floor) (xs : List Floor). x ∷ xs) (f.1 g parts.0) (floors_same fs gs parts.1)

layer_is : (layer : Quasi-F Floor Quasi) (constant : ℤ) (terms : List (ℕ × ℤ)) (floors : List Floor) → constant ≡ layer.constant → terms ≡ layer.terms → floors ≡ layer.floors → record { constant = constant; terms = terms; floors = floors } ≡ layer
layer_is layer constant terms floors c t f =
    ap (λ (z : ℤ). record { constant = z; terms = terms; floors = floors }) c
    ∙ (ap (λ (ts : List (ℕ × ℤ)). record { constant = layer.constant; terms = ts; floors = floors }) t ∙ ap (λ (fs : List Floor). record { constant = layer.constant; terms = layer.terms; floors = fs }) f)

floor_is : (layer : Floor-F Floor Quasi) (times : ℤ) (inner : Quasi) (by : ℤ) → times ≡ layer.times → inner ≡ layer.inner → by ≡ layer.by → record { times = times; inner = inner; by = by } ≡ layer
floor_is layer times inner by t i b =
    ap (λ (z : ℤ). record { times = z; inner = inner; by = by }) t
    ∙ (ap (λ (q : Quasi). record { times = layer.times; inner = q; by = by }) i ∙ ap (λ (z : ℤ). record { times = layer.times; inner = layer.inner; by = z }) b)

form_case : (y : Quasi-F ((f : Floor) × FloorSame f) ((q : Quasi) × FormSame q)) → FormSame (roll-Quasi (record { constant = y.constant; terms = y.terms; floors = map (λ e. e.0) y.floors }))
form_case y r h =
    let made = fold-roll-Quasi (Floor → Bool) (Quasi → Bool) floor_test form_test (record { constant = y.constant; terms = y.terms; floors = map (λ e. e.0) y.floors }) in
    let test : (int_eq y.constant (out-Quasi r).constant && (same_terms y.terms (out-Quasi r).terms && all_pass (map same_factored (map (λ e. e.0) y.floors)) (out-Quasi r).floors)) ≡ true = sym (ap (λ (t : Quasi → Bool). t r) made) ∙ h in
    let first = both _ _ test in
    let rest = both _ _ first.1 in
    let constant = (Decides-int_eq y.constant (out-Quasi r).constant).0 first.0 in
    let terms = terms_same y.terms (out-Quasi r).terms rest.0 in
    let floors = floors_same y.floors (out-Quasi r).floors rest.1 in
    ap roll-Quasi (layer_is (out-Quasi r) y.constant y.terms (map (λ e. e.0) y.floors) constant terms floors) ∙ roll-out-Quasi r

floor_case : (y : Floor-F ((f : Floor) × FloorSame f) ((q : Quasi) × FormSame q)) → FloorSame (roll-Floor (record { times = y.times; inner = y.inner.0; by = y.by }))
floor_case y g h =
    let made = fold-roll-Floor (Floor → Bool) (Quasi → Bool) floor_test form_test (record { times = y.times; inner = y.inner.0; by = y.by }) in
    let test : (int_eq y.times (out-Floor g).times && (int_eq y.by (out-Floor g).by && same_form y.inner.0 (out-Floor g).inner)) ≡ true = sym (ap (λ (t : Floor → Bool). t g) made) ∙ h in
    let first = both _ _ test in
    let rest = both _ _ first.1 in
    let times = (Decides-int_eq y.times (out-Floor g).times).0 first.0 in
    let by = (Decides-int_eq y.by (out-Floor g).by).0 rest.0 in
    let inner = y.inner.1 (out-Floor g).inner rest.1 in
    ap roll-Floor (floor_is (out-Floor g) y.times y.inner.0 y.by times inner by) ∙ roll-out-Floor g

-- what the test of two forms tells
pub same_form-is : (q r : Quasi) → same_form q r ≡ true → q ≡ r
same_form-is = ind-Quasi FloorSame FormSame (λ x y is. subst (λ z. FloorSame (roll-Floor z)) is (floor_case y)) (λ x y is. subst (λ z. FormSame (roll-Quasi z)) is (form_case y))

-- and that of two floors
pub same_floor-by : (f g : Floor) → same_floor f g ≡ true → (out-Floor f).by ≡ (out-Floor g).by
unfolding same_floor
same_floor-by f g h = (Decides-int_eq (out-Floor f).by (out-Floor g).by).0 (both _ _ h).0

pub same_floor-inner : (f g : Floor) → same_floor f g ≡ true → (out-Floor f).inner ≡ (out-Floor g).inner
unfolding same_floor
same_floor-inner f g h = same_form-is (out-Floor f).inner (out-Floor g).inner (both _ _ h).1

-- ---- and the converse

pub and_true : (a b : Bool) → a ≡ true → b ≡ true → (a && b) ≡ true
and_true a b h k = ap₂ (λ (x y : Bool). x && y) h k

int_same : (z : ℤ) → int_eq z z ≡ true
int_same z = (Decides-int_eq z z).1 refl

nat_same : (n : ℕ) → nat_eq n n ≡ true
nat_same n = grind (arith, nat_tests)

terms_refl : (ts : List (ℕ × ℤ)) → same_terms ts ts ≡ true
terms_refl [] = refl
terms_refl (t ∷ ts) = and_true (nat_eq t.0 t.0 && int_eq t.1 t.1) (same_terms ts ts) (and_true (nat_eq t.0 t.0) (int_eq t.1 t.1) (nat_same t.0) (int_same t.1)) (terms_refl ts)

abbrev FloorRefl : Floor → Type 0
FloorRefl f = same_factored f f ≡ true

abbrev FormRefl : Quasi → Type 0
FormRefl q = same_form q q ≡ true

floors_refl : (fs : List ((f : Floor) × FloorRefl f)) → all_pass (map same_factored (map (λ e. e.0) fs)) (map (λ e. e.0) fs) ≡ true
floors_refl [] = refl
floors_refl (f ∷ fs) = and_true (same_factored f.0 f.0) (all_pass (map same_factored (map (λ e. e.0) fs)) (map (λ e. e.0) fs)) f.1 (floors_refl fs)

form_refl_case : (y : Quasi-F ((f : Floor) × FloorRefl f) ((q : Quasi) × FormRefl q)) → FormRefl (roll-Quasi (record { constant = y.constant; terms = y.terms; floors = map (λ e. e.0) y.floors }))
form_refl_case y =
    let layer : Quasi-F Floor Quasi = record { constant = y.constant; terms = y.terms; floors = map (λ e. e.0) y.floors } in
    let made = fold-roll-Quasi (Floor → Bool) (Quasi → Bool) floor_test form_test layer in
    ap (λ (t : Quasi → Bool). t (roll-Quasi layer)) made
    ∙ (ap (λ (l : Quasi-F Floor Quasi). int_eq y.constant l.constant && (same_terms y.terms l.terms && all_pass (map same_factored (map (λ e. e.0) y.floors)) l.floors)) (out-roll-Quasi layer)
    ∙ and_true (int_eq y.constant y.constant) (same_terms y.terms y.terms && all_pass (map same_factored (map (λ e. e.0) y.floors)) (map (λ e. e.0) y.floors)) (int_same y.constant)
    (and_true (same_terms y.terms y.terms) (all_pass (map same_factored (map (λ e. e.0) y.floors)) (map (λ e. e.0) y.floors)) (terms_refl y.terms) (floors_refl y.floors)))

floor_refl_case : (y : Floor-F ((f : Floor) × FloorRefl f) ((q : Quasi) × FormRefl q)) → FloorRefl (roll-Floor (record { times = y.times; inner = y.inner.0; by = y.by }))
floor_refl_case y =
    let layer : Floor-F Floor Quasi = record { times = y.times; inner = y.inner.0; by = y.by } in
    let made = fold-roll-Floor (Floor → Bool) (Quasi → Bool) floor_test form_test layer in
    ap (λ (t : Floor → Bool). t (roll-Floor layer)) made
    ∙ (ap (λ (l : Floor-F Floor Quasi). int_eq y.times l.times && (int_eq y.by l.by && same_form y.inner.0 l.inner)) (out-roll-Floor layer)
    ∙ and_true (int_eq y.times y.times) (int_eq y.by y.by && same_form y.inner.0 y.inner.0) (int_same y.times)
    (and_true (int_eq y.by y.by) (same_form y.inner.0 y.inner.0) (int_same y.by) y.inner.1))

pub same_form-refl : (q : Quasi) → same_form q q ≡ true
same_form-refl = ind-Quasi FloorRefl FormRefl (λ x y is. subst (λ z. FloorRefl (roll-Floor z)) is (floor_refl_case y)) (λ x y is. subst (λ z. FormRefl (roll-Quasi z)) is (form_refl_case y))

pub like_from : (f g : Floor) → (out-Floor f).by ≡ (out-Floor g).by → (out-Floor f).inner ≡ (out-Floor g).inner → same_floor f g ≡ true
unfolding same_floor
like_from f g b i =
    and_true (int_eq (out-Floor f).by (out-Floor g).by) (same_form (out-Floor f).inner (out-Floor g).inner) ((Decides-int_eq (out-Floor f).by (out-Floor g).by).1 b)
    (subst (λ (q : Quasi). same_form (out-Floor f).inner q ≡ true) i (same_form-refl (out-Floor f).inner))

pub like_through : (f g h : Floor) → same_floor g h ≡ true → same_floor f g ≡ true → same_floor f h ≡ true
like_through f g h later first = like_from f h (same_floor-by f g first ∙ same_floor-by g h later) (same_floor-inner f g first ∙ same_floor-inner g h later)
