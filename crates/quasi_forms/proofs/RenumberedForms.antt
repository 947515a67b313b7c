-- Forms over other variables count the same, and are within the same limits.
use Rattle.std.proofs.Common.{◌≡◌, ℕ, ◌+◌, ◌*◌, ℤ, List, [], ◌∷◌, map, sum, sum_by, refl, sym, ap, ap₂, ◌∙◌, subst, unsigned_abs, All, arith}
use Rattle.std.proofs.lemmas.List.Elements.{All-head, All-tail, All-nil, All-cons}
use Rattle.std.proofs.lemmas.List.Sums.{sum_by-cons}
use Rattle.affine_rows.specs.declared.quasi.Quasi.{Quasi, Quasi-F, roll-Quasi, out-Quasi, out-roll-Quasi, fold_out-Quasi, ind-Quasi}
use Rattle.affine_rows.specs.declared.quasi.Floor.{Floor, Floor-F, roll-Floor, out-Floor, out-roll-Floor, fold_out-Floor}
use Rattle.affine_rows.specs.Forms.{ceil_div, floor_count as counted_floor, sum_step, constant_step, sum_count, constant_count, IsSmall, IsQuotient, IsForm, IsFloor}
use Rattle.affine_rows.specs.Reach.{floor_sum, floor_constant}
use Rattle.affine_rows.proofs.FormEquations.{IsForm-small, IsForm-floors, IsFloor-inner, IsFloor-quotient}
use Rattle.quasi_forms.specs.Renumbered.{place_in, renumbered_terms, renumber_floor_step, renumber_step, renumbered_form, renumbered_floor}
use Rattle.quasi_forms.proofs.FormLimits.{sum_count-out, constant_count-out, floor_constant-out, form_made, floor_made}

-- ---- equations

pub renumbered_form-out : (vars : List ℕ) (q : Quasi) →
    renumbered_form vars q ≡ roll-Quasi (record { constant = (out-Quasi q).constant; terms = renumbered_terms vars (out-Quasi q).terms; floors = map (renumbered_floor vars) (out-Quasi q).floors })
unfolding renumbered_form renumbered_floor
renumbered_form-out vars q = fold_out-Quasi Floor Quasi renumber_floor_step (renumber_step vars) q

pub renumbered_floor-out : (vars : List ℕ) (f : Floor) →
    renumbered_floor vars f ≡ roll-Floor (record { times = (out-Floor f).times; inner = renumbered_form vars (out-Floor f).inner; by = (out-Floor f).by })
unfolding renumbered_form renumbered_floor
renumbered_floor-out vars f = fold_out-Floor Floor Quasi renumber_floor_step (renumber_step vars) f

form_layer : (vars : List ℕ) (q : Quasi) → out-Quasi (renumbered_form vars q) ≡ record { constant = (out-Quasi q).constant; terms = renumbered_terms vars (out-Quasi q).terms; floors = map (renumbered_floor vars) (out-Quasi q).floors }
form_layer vars q = ap out-Quasi (renumbered_form-out vars q) ∙ out-roll-Quasi (record { constant = (out-Quasi q).constant; terms = renumbered_terms vars (out-Quasi q).terms; floors = map (renumbered_floor vars) (out-Quasi q).floors })

floor_layer : (vars : List ℕ) (f : Floor) → out-Floor (renumbered_floor vars f) ≡ record { times = (out-Floor f).times; inner = renumbered_form vars (out-Floor f).inner; by = (out-Floor f).by }
floor_layer vars f = ap out-Floor (renumbered_floor-out vars f) ∙ out-roll-Floor (record { times = (out-Floor f).times; inner = renumbered_form vars (out-Floor f).inner; by = (out-Floor f).by })

floor_sum-out : (f : Floor) → floor_sum f ≡ unsigned_abs (out-Floor f).times * ceil_div (sum_count (out-Floor f).inner) (unsigned_abs (out-Floor f).by)
floor_sum-out = fold_out-Floor ℕ ℕ counted_floor sum_step

-- ---- what is kept

record KeptForm (vars : List ℕ) (q : Quasi) : Type 0 where
  pub sum : sum_count (renumbered_form vars q) ≡ sum_count q
  pub constant : constant_count (renumbered_form vars q) ≡ constant_count q
  pub form : IsForm q → IsForm (renumbered_form vars q)

record KeptFloor (vars : List ℕ) (f : Floor) : Type 0 where
  pub sum : floor_sum (renumbered_floor vars f) ≡ floor_sum f
  pub constant : floor_constant (renumbered_floor vars f) ≡ floor_constant f
  pub floor : IsFloor f → IsFloor (renumbered_floor vars f)

abbrev KeptFloors : List ℕ → List Floor → Type 0
KeptFloors vars [] = Unit {0}
KeptFloors vars (f ∷ fs) = KeptFloor vars f × KeptFloors vars fs

terms_sum : (vars : List ℕ) (ts : List (ℕ × ℤ)) → sum_by (λ t. unsigned_abs t.1) (renumbered_terms vars ts) ≡ sum_by (λ t. unsigned_abs t.1) ts
terms_sum vars [] = refl
terms_sum vars (t ∷ ts) =
    sum_by-cons (λ (u : ℕ × ℤ). unsigned_abs u.1) (place_in vars t.0, t.1) (renumbered_terms vars ts)
    ∙ (ap (λ (n : ℕ). unsigned_abs t.1 + n) (terms_sum vars ts) ∙ sym (sum_by-cons (λ (u : ℕ × ℤ). unsigned_abs u.1) t ts))

floors_sum : (vars : List ℕ) (fs : List Floor) → KeptFloors vars fs → map floor_sum (map (renumbered_floor vars) fs) ≡ map floor_sum fs
floors_sum vars [] all = refl
floors_sum vars (f ∷ fs) all = ap₂ (λ (x : ℕ) (xs : List ℕ). x ∷ xs) all.0.sum (floors_sum vars fs all.1)

floors_constant : (vars : List ℕ) (fs : List Floor) → KeptFloors vars fs → map floor_constant (map (renumbered_floor vars) fs) ≡ map floor_constant fs
floors_constant vars [] all = refl
floors_constant vars (f ∷ fs) all = ap₂ (λ (x : ℕ) (xs : List ℕ). x ∷ xs) all.0.constant (floors_constant vars fs all.1)

floors_times : (vars : List ℕ) (fs : List Floor) → sum_by (λ f. unsigned_abs (out-Floor f).times) (map (renumbered_floor vars) fs) ≡ sum_by (λ f. unsigned_abs (out-Floor f).times) fs
floors_times vars [] = refl
floors_times vars (f ∷ fs) =
    sum_by-cons (λ (g : Floor). unsigned_abs (out-Floor g).times) (renumbered_floor vars f) (map (renumbered_floor vars) fs)
    ∙ (ap₂ (λ (a b : ℕ). a + b) (ap (λ (l : Floor-F Floor Quasi). unsigned_abs l.times) (floor_layer vars f)) (floors_times vars fs)
    ∙ sym (sum_by-cons (λ (g : Floor). unsigned_abs (out-Floor g).times) f fs))

floors_all : (vars : List ℕ) (fs : List Floor) → KeptFloors vars fs → All IsFloor fs → All IsFloor (map (renumbered_floor vars) fs)
floors_all vars [] kept all = All-nil IsFloor
floors_all vars (f ∷ fs) kept all = All-cons IsFloor (renumbered_floor vars f) (map (renumbered_floor vars) fs) (kept.0.floor (All-head IsFloor f fs all)) (floors_all vars fs kept.1 (All-tail IsFloor f fs all))

-- ---- one layer

form_sum : (vars : List ℕ) (q : Quasi) → KeptFloors vars (out-Quasi q).floors → sum_count (renumbered_form vars q) ≡ sum_count q
form_sum vars q all =
    sum_count-out (renumbered_form vars q)
    ∙ (ap (λ (l : Quasi-F Floor Quasi). sum_by (λ t. unsigned_abs t.1) l.terms + sum (map floor_sum l.floors)) (form_layer vars q)
    ∙ (ap₂ (λ (a : ℕ) (b : List ℕ). a + sum b) (terms_sum vars (out-Quasi q).terms) (floors_sum vars (out-Quasi q).floors all) ∙ sym (sum_count-out q)))

form_constant : (vars : List ℕ) (q : Quasi) → KeptFloors vars (out-Quasi q).floors → constant_count (renumbered_form vars q) ≡ constant_count q
form_constant vars q all =
    constant_count-out (renumbered_form vars q)
    ∙ (ap (λ (l : Quasi-F Floor Quasi). unsigned_abs l.constant + sum (map floor_constant l.floors)) (form_layer vars q)
    ∙ (ap (λ (b : List ℕ). unsigned_abs (out-Quasi q).constant + sum b) (floors_constant vars (out-Quasi q).floors all) ∙ sym (constant_count-out q)))

form_times : (vars : List ℕ) (q : Quasi) → sum_by (λ f. unsigned_abs (out-Floor f).times) (out-Quasi (renumbered_form vars q)).floors ≡ sum_by (λ f. unsigned_abs (out-Floor f).times) (out-Quasi q).floors
form_times vars q = ap (λ (l : Quasi-F Floor Quasi). sum_by (λ f. unsigned_abs (out-Floor f).times) l.floors) (form_layer vars q) ∙ floors_times vars (out-Quasi q).floors

form_small : (vars : List ℕ) (q : Quasi) → KeptFloors vars (out-Quasi q).floors → IsSmall q → IsSmall (renumbered_form vars q)
form_small vars q all small = record {
  sum = omega (arith, form_sum vars q all, small.sum);
  constant = omega (arith, form_constant vars q all, small.constant);
  factors = omega (arith, form_times vars q, small.factors);
}

form_kept : (vars : List ℕ) (q : Quasi) → KeptFloors vars (out-Quasi q).floors → KeptForm vars q
form_kept vars q all = record {
  sum = form_sum vars q all;
  constant = form_constant vars q all;
  form = λ h.
      form_made (renumbered_form vars q)
      (subst (All IsFloor) (sym (ap (λ (l : Quasi-F Floor Quasi). l.floors) (form_layer vars q))) (floors_all vars (out-Quasi q).floors all (IsForm-floors q h)))
      (form_small vars q all (IsForm-small q h));
}

floor_kept : (vars : List ℕ) (f : Floor) → KeptForm vars (out-Floor f).inner → KeptFloor vars f
floor_kept vars f kept = record {
  sum =
      floor_sum-out (renumbered_floor vars f)
      ∙ (ap (λ (l : Floor-F Floor Quasi). unsigned_abs l.times * ceil_div (sum_count l.inner) (unsigned_abs l.by)) (floor_layer vars f)
      ∙ (ap (λ (n : ℕ). unsigned_abs (out-Floor f).times * ceil_div n (unsigned_abs (out-Floor f).by)) kept.sum ∙ sym (floor_sum-out f)));
  constant =
      floor_constant-out (renumbered_floor vars f)
      ∙ (ap (λ (l : Floor-F Floor Quasi). unsigned_abs l.times * ceil_div (constant_count l.inner) (unsigned_abs l.by)) (floor_layer vars f)
      ∙ (ap (λ (n : ℕ). unsigned_abs (out-Floor f).times * ceil_div n (unsigned_abs (out-Floor f).by)) kept.constant ∙ sym (floor_constant-out f)));
  floor = λ h.
      floor_made (renumbered_floor vars f)
      (subst IsForm (sym (ap (λ (l : Floor-F Floor Quasi). l.inner) (floor_layer vars f))) (kept.form (IsFloor-inner f h)))
      (subst (λ (l : Floor-F Floor Quasi). IsQuotient l.times l.by) (sym (floor_layer vars f)) (IsFloor-quotient f h));
}

-- ---- all layers

all_kept : (vars : List ℕ) (fs : List ((f : Floor) × KeptFloor vars f)) → KeptFloors vars (map (λ e. e.0) fs)
all_kept vars [] = tt
all_kept vars (f ∷ fs) = (f.1, all_kept vars fs)

form_case : (vars : List ℕ) (y : Quasi-F ((f : Floor) × KeptFloor vars f) ((q : Quasi) × KeptForm vars q)) → KeptForm vars (roll-Quasi (record { constant = y.constant; terms = y.terms; floors = map (λ e. e.0) y.floors }))
form_case vars y =
    let layer : Quasi-F Floor Quasi = record { constant = y.constant; terms = y.terms; floors = map (λ e. e.0) y.floors } in
    form_kept vars (roll-Quasi layer) (subst (λ (l : Quasi-F Floor Quasi). KeptFloors vars l.floors) (sym (out-roll-Quasi layer)) (all_kept vars y.floors))

floor_case : (vars : List ℕ) (y : Floor-F ((f : Floor) × KeptFloor vars f) ((q : Quasi) × KeptForm vars q)) → KeptFloor vars (roll-Floor (record { times = y.times; inner = y.inner.0; by = y.by }))
floor_case vars y =
    let layer : Floor-F Floor Quasi = record { times = y.times; inner = y.inner.0; by = y.by } in
    floor_kept vars (roll-Floor layer) (subst (λ (l : Floor-F Floor Quasi). KeptForm vars l.inner) (sym (out-roll-Floor layer)) y.inner.1)

kept : (vars : List ℕ) (q : Quasi) → KeptForm vars q
kept vars = ind-Quasi (KeptFloor vars) (KeptForm vars) (λ x y is. subst (λ z. KeptFloor vars (roll-Floor z)) is (floor_case vars y)) (λ x y is. subst (λ z. KeptForm vars (roll-Quasi z)) is (form_case vars y))

-- a form within the limits stays within them
pub renumbered_is_form : (vars : List ℕ) (q : Quasi) → IsForm q → IsForm (renumbered_form vars q)
renumbered_is_form vars q h = (kept vars q).form h

-- ---- what the code makes

pub renumbered_floor_is : (vars : List ℕ) (f : Floor) (times : ℤ) (inner : Quasi) (by : ℤ) → times ≡ (out-Floor f).times → inner ≡ renumbered_form vars (out-Floor f).inner → by ≡ (out-Floor f).by → roll-Floor (record { times = times; inner = inner; by = by }) ≡ renumbered_floor vars f
renumbered_floor_is vars f times inner by t i b =
    ap (λ (z : ℤ). roll-Floor (record { times = z; inner = inner; by = by })) t
    ∙ (ap₂ (λ (q : Quasi) (z : ℤ). roll-Floor (record { times = (out-Floor f).times; inner = q; by = z })) i b ∙ sym (renumbered_floor-out vars f))

pub renumbered_form_is : (vars : List ℕ) (q : Quasi) (constant : ℤ) (ts : List (ℕ × ℤ)) (fs : List Floor) → constant ≡ (out-Quasi q).constant → ts ≡ renumbered_terms vars (out-Quasi q).terms → fs ≡ map (renumbered_floor vars) (out-Quasi q).floors → roll-Quasi (record { constant = constant; terms = ts; floors = fs }) ≡ renumbered_form vars q
renumbered_form_is vars q constant ts fs c t f =
    ap (λ (z : ℤ). roll-Quasi (record { constant = z; terms = ts; floors = fs })) c
    ∙ (ap₂ (λ (us : List (ℕ × ℤ)) (gs : List Floor). roll-Quasi (record { constant = (out-Quasi q).constant; terms = us; floors = gs })) t f ∙ sym (renumbered_form-out vars q))
