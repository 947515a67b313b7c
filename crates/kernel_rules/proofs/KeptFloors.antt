-- A form with fewer floors is a form.
use Rattle.std.proofs.Common.{◌≡◌, ℕ, ◌+◌, ◌≤◌, Bool, List, map, sum, sum_by, not, unsigned_abs, FitsSigned, All, arith, refl, sym, ap, subst, ◌∙◌}
use Rattle.std.specs.Prelude.{filter}
use Rattle.std.specs.Int.{w64}
use Rattle.std.proofs.lemmas.Int.{fits_signed_from_abs}
use Rattle.std.proofs.lemmas.List.Sums.{sum-map}
use Rattle.std.proofs.lemmas.List.Filters.{sum_by-filter_both}
use Rattle.std.proofs.lemmas.List.Elements.{All-filter}
use Rattle.affine_rows.specs.declared.quasi.Quasi.{Quasi, Quasi-F, roll-Quasi, out-Quasi, out-roll-Quasi, fold_out-Quasi}
use Rattle.affine_rows.specs.declared.quasi.Floor.{Floor, out-Floor}
use Rattle.affine_rows.specs.Forms.{floor_count, sum_step, constant_step, sum_count, constant_count, IsForm, IsFloor, IsSmall}
use Rattle.affine_rows.specs.Reach.{floor_sum, floor_constant}
use Rattle.affine_rows.proofs.FormEquations.{IsForm-small, IsForm-floors}
use Rattle.quasi_forms.proofs.FormLimits.{form_made}

sum_out : (q : Quasi) → sum_count q ≡ sum_by (λ t. unsigned_abs t.1) (out-Quasi q).terms + sum (map floor_sum (out-Quasi q).floors)
sum_out = fold_out-Quasi ℕ ℕ floor_count sum_step

constant_out : (q : Quasi) → constant_count q ≡ unsigned_abs (out-Quasi q).constant + sum (map floor_constant (out-Quasi q).floors)
constant_out = fold_out-Quasi ℕ ℕ floor_count constant_step

fewer : (keep : Floor → Bool) (f : Floor → ℕ) (fs : List Floor) → sum (map f (filter keep fs)) ≤ sum (map f fs)
fewer keep f fs = omega (arith, sum-map f fs, sum-map f (filter keep fs), sum_by-filter_both keep (λ g. not (keep g)) (λ _. refl) f fs)

fewer_by : (keep : Floor → Bool) (f : Floor → ℕ) (fs : List Floor) → sum_by f (filter keep fs) ≤ sum_by f fs
fewer_by keep f fs = omega (arith, sum_by-filter_both keep (λ g. not (keep g)) (λ _. refl) f fs)

abbrev fewer_layer : (Floor → Bool) → Quasi → Quasi-F Floor Quasi
fewer_layer keep q = record { constant = (out-Quasi q).constant; terms = (out-Quasi q).terms; floors = filter keep (out-Quasi q).floors }

fewer_sum : (keep : Floor → Bool) (q : Quasi) → sum_count (roll-Quasi (fewer_layer keep q)) ≤ sum_count q
fewer_sum keep q =
    let made : sum_count (roll-Quasi (fewer_layer keep q)) ≡ sum_by (λ t. unsigned_abs t.1) (out-Quasi q).terms + sum (map floor_sum (filter keep (out-Quasi q).floors)) =
    sum_out (roll-Quasi (fewer_layer keep q)) ∙ ap (λ (l : Quasi-F Floor Quasi). sum_by (λ t. unsigned_abs t.1) l.terms + sum (map floor_sum l.floors)) (out-roll-Quasi (fewer_layer keep q)) in
    omega (arith, made, sum_out q, fewer keep floor_sum (out-Quasi q).floors)

fewer_constant : (keep : Floor → Bool) (q : Quasi) → constant_count (roll-Quasi (fewer_layer keep q)) ≤ constant_count q
fewer_constant keep q =
    let made : constant_count (roll-Quasi (fewer_layer keep q)) ≡ unsigned_abs (out-Quasi q).constant + sum (map floor_constant (filter keep (out-Quasi q).floors)) =
    constant_out (roll-Quasi (fewer_layer keep q)) ∙ ap (λ (l : Quasi-F Floor Quasi). unsigned_abs l.constant + sum (map floor_constant l.floors)) (out-roll-Quasi (fewer_layer keep q)) in
    omega (arith, made, constant_out q, fewer keep floor_constant (out-Quasi q).floors)

fewer_factors : (keep : Floor → Bool) (q : Quasi) → sum_by (λ f. unsigned_abs (out-Floor f).times) (out-Quasi (roll-Quasi (fewer_layer keep q))).floors ≤ sum_by (λ f. unsigned_abs (out-Floor f).times) (out-Quasi q).floors
fewer_factors keep q =
    subst (λ (l : Quasi-F Floor Quasi). sum_by (λ f. unsigned_abs (out-Floor f).times) l.floors ≤ sum_by (λ f. unsigned_abs (out-Floor f).times) (out-Quasi q).floors) (sym (out-roll-Quasi (fewer_layer keep q)))
    (fewer_by keep (λ f. unsigned_abs (out-Floor f).times) (out-Quasi q).floors)

fewer_small : (keep : Floor → Bool) (q : Quasi) → IsSmall q → IsSmall (roll-Quasi (fewer_layer keep q))
fewer_small keep q h = record {
  sum = omega (arith, h.sum, fewer_sum keep q);
  constant = omega (arith, h.constant, fewer_constant keep q);
  factors = omega (arith, h.factors, fewer_factors keep q);
}

fewer_made : (keep : Floor → Bool) (q : Quasi) → IsForm q → IsForm (roll-Quasi (fewer_layer keep q))
fewer_made keep q h =
    form_made (roll-Quasi (fewer_layer keep q))
    (subst (λ (l : Quasi-F Floor Quasi). All IsFloor l.floors) (sym (out-roll-Quasi (fewer_layer keep q))) (All-filter keep IsFloor (out-Quasi q).floors (IsForm-floors q h)))
    (fewer_small keep q (IsForm-small q h))

-- a form stays one where floors go
pub fewer_floors : (keep : Floor → Bool) (q copied : Quasi) (fs : List Floor) → IsForm q → copied ≡ q → fs ≡ filter keep (out-Quasi copied).floors → IsForm (roll-Quasi (record { constant = (out-Quasi copied).constant; terms = (out-Quasi copied).terms; floors = fs }))
fewer_floors keep q copied fs h same kept =
    subst (λ (gs : List Floor). IsForm (roll-Quasi (record { constant = (out-Quasi copied).constant; terms = (out-Quasi copied).terms; floors = gs }))) (sym kept) (fewer_made keep copied (subst IsForm (sym same) h))

-- the constant of a form is a number of 64 bits
pub form_constant : (q copied : Quasi) → IsForm q → copied ≡ q → FitsSigned w64 (out-Quasi copied).constant
form_constant q copied h same =
    let small = IsForm-small copied (subst IsForm (sym same) h) in
    fits_signed_from_abs w64 _ (omega (arith, small.constant, constant_out copied))
