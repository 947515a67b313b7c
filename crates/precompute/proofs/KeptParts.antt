-- A form with fewer terms and floors, and without its constant, is a form.
use Rattle.std.proofs.Common.{◌≡◌, ℕ, ℤ, pos, ◌+◌, ◌≤◌, Bool, List, map, sum, sum_by, not, unsigned_abs, All, arith, refl, sym, ap, subst, ◌∙◌}
use Rattle.std.specs.Prelude.{filter}
use Rattle.std.proofs.lemmas.List.Sums.{sum-map}
use Rattle.std.proofs.lemmas.List.Filters.{sum_by-filter_both}
use Rattle.std.proofs.lemmas.List.Elements.{All-filter}
use Rattle.affine_rows.specs.declared.quasi.Quasi.{Quasi, Quasi-F, roll-Quasi, out-Quasi, out-roll-Quasi, fold_out-Quasi}
use Rattle.affine_rows.specs.declared.quasi.Floor.{Floor, out-Floor}
use Rattle.affine_rows.specs.Forms.{floor_count, sum_step, constant_step, sum_count, constant_count, IsForm, IsFloor, IsSmall}
use Rattle.affine_rows.specs.Reach.{floor_sum, floor_constant}
use Rattle.affine_rows.proofs.FormEquations.{IsForm-small, IsForm-floors}
use Rattle.quasi_forms.proofs.FormLimits.{form_made}

sum_out : (q : Quasi) → sum_count q ≡ sum_by (λ t. unsigned_abs t.1) (out-Quasi q).terms + sum (map floor_sum (out-Quasi q).floors)
sum_out = fold_out-Quasi ℕ ℕ floor_count sum_step

constant_out : (q : Quasi) → constant_count q ≡ unsigned_abs (out-Quasi q).constant + sum (map floor_constant (out-Quasi q).floors)
constant_out = fold_out-Quasi ℕ ℕ floor_count constant_step

fewer_by : {A : Type 0} (keep : A → Bool) (f : A → ℕ) (xs : List A) → sum_by f (filter keep xs) ≤ sum_by f xs
fewer_by keep f xs = omega (arith, sum_by-filter_both keep (λ g. not (keep g)) (λ _. refl) f xs)

fewer : (keep : Floor → Bool) (f : Floor → ℕ) (fs : List Floor) → sum (map f (filter keep fs)) ≤ sum (map f fs)
fewer keep f fs = omega (arith, sum-map f fs, sum-map f (filter keep fs), fewer_by keep f fs)

abbrev kept_layer : (ℕ × ℤ → Bool) → (Floor → Bool) → Quasi → Quasi-F Floor Quasi
kept_layer of_term of_floor q = record { constant = pos 0; terms = filter of_term (out-Quasi q).terms; floors = filter of_floor (out-Quasi q).floors }

kept_sum : (of_term : ℕ × ℤ → Bool) (of_floor : Floor → Bool) (q : Quasi) → sum_count (roll-Quasi (kept_layer of_term of_floor q)) ≤ sum_count q
kept_sum of_term of_floor q =
    let made : sum_count (roll-Quasi (kept_layer of_term of_floor q)) ≡ sum_by (λ t. unsigned_abs t.1) (filter of_term (out-Quasi q).terms) + sum (map floor_sum (filter of_floor (out-Quasi q).floors)) =
    sum_out (roll-Quasi (kept_layer of_term of_floor q)) ∙ ap (λ (l : Quasi-F Floor Quasi). sum_by (λ t. unsigned_abs t.1) l.terms + sum (map floor_sum l.floors)) (out-roll-Quasi (kept_layer of_term of_floor q)) in
    omega (arith, made, sum_out q, fewer_by of_term (λ t. unsigned_abs t.1) (out-Quasi q).terms, fewer of_floor floor_sum (out-Quasi q).floors)

kept_constant : (of_term : ℕ × ℤ → Bool) (of_floor : Floor → Bool) (q : Quasi) → constant_count (roll-Quasi (kept_layer of_term of_floor q)) ≤ constant_count q
kept_constant of_term of_floor q =
    let made : constant_count (roll-Quasi (kept_layer of_term of_floor q)) ≡ 0 + sum (map floor_constant (filter of_floor (out-Quasi q).floors)) =
    constant_out (roll-Quasi (kept_layer of_term of_floor q)) ∙ ap (λ (l : Quasi-F Floor Quasi). unsigned_abs l.constant + sum (map floor_constant l.floors)) (out-roll-Quasi (kept_layer of_term of_floor q)) in
    omega (arith, made, constant_out q, fewer of_floor floor_constant (out-Quasi q).floors)

kept_factors : (of_term : ℕ × ℤ → Bool) (of_floor : Floor → Bool) (q : Quasi) → sum_by (λ f. unsigned_abs (out-Floor f).times) (out-Quasi (roll-Quasi (kept_layer of_term of_floor q))).floors ≤ sum_by (λ f. unsigned_abs (out-Floor f).times) (out-Quasi q).floors
kept_factors of_term of_floor q =
    subst (λ (l : Quasi-F Floor Quasi). sum_by (λ f. unsigned_abs (out-Floor f).times) l.floors ≤ sum_by (λ f. unsigned_abs (out-Floor f).times) (out-Quasi q).floors) (sym (out-roll-Quasi (kept_layer of_term of_floor q)))
    (fewer_by of_floor (λ f. unsigned_abs (out-Floor f).times) (out-Quasi q).floors)

kept_small : (of_term : ℕ × ℤ → Bool) (of_floor : Floor → Bool) (q : Quasi) → IsSmall q → IsSmall (roll-Quasi (kept_layer of_term of_floor q))
kept_small of_term of_floor q h = record {
  sum = omega (arith, h.sum, kept_sum of_term of_floor q);
  constant = omega (arith, h.constant, kept_constant of_term of_floor q);
  factors = omega (arith, h.factors, kept_factors of_term of_floor q);
}

kept_made : (of_term : ℕ × ℤ → Bool) (of_floor : Floor → Bool) (q : Quasi) → IsForm q → IsForm (roll-Quasi (kept_layer of_term of_floor q))
kept_made of_term of_floor q h =
    form_made (roll-Quasi (kept_layer of_term of_floor q))
    (subst (λ (l : Quasi-F Floor Quasi). All IsFloor l.floors) (sym (out-roll-Quasi (kept_layer of_term of_floor q))) (All-filter of_floor IsFloor (out-Quasi q).floors (IsForm-floors q h)))
    (kept_small of_term of_floor q (IsForm-small q h))

pub kept_parts : (of_term : ℕ × ℤ → Bool) (of_floor : Floor → Bool) (q copied : Quasi) (ts : List (ℕ × ℤ)) (fs : List Floor) → IsForm q → copied ≡ q → ts ≡ filter of_term (out-Quasi copied).terms → fs ≡ filter of_floor (out-Quasi copied).floors → IsForm (roll-Quasi (record { constant = pos 0; terms = ts; floors = fs }))
kept_parts of_term of_floor q copied ts fs h same terms floors =
    subst (λ (gs : List Floor). IsForm (roll-Quasi (record { constant = pos 0; terms = ts; floors = gs }))) (sym floors)
    (subst (λ (us : List (ℕ × ℤ)). IsForm (roll-Quasi (record { constant = pos 0; terms = us; floors = filter of_floor (out-Quasi copied).floors }))) (sym terms)
    (kept_made of_term of_floor copied (subst IsForm (sym same) h)))
