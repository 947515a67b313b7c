-- Sums of forms, in which equal variables and equal floors are collected and parts with factor 0 are gone.
use Rattle.std.specs.Prelude.{ℕ, ℤ, pos, ◌*ℤ◌, ◌≤ℤ◌, not, if◌then◌else◌, List, [], ◌∷◌, ◌++◌, map, flat_map, filter}
use Rattle.std.specs.Ordering.{int_eq}
use Rattle.affine_rows.specs.declared.quasi.Quasi.{Quasi, Quasi-F, roll-Quasi, out-Quasi, fold-Quasi}
use Rattle.affine_rows.specs.declared.quasi.Floor.{Floor, Floor-F, roll-Floor, out-Floor}
use Rattle.affine_rows.specs.Reduced.{add_term, factor_of}
use Rattle.affine_rows.specs.Forms.{affine, total, IsForm}
use Rattle.expr_tree.specs.Scenes.{is_among}
use Rattle.quasi_forms.specs.Alike.{same_floor, distinct}

-- each term added at its place, so that variables rise
unfoldable pub collected_terms : List (ℕ × ℤ) → List (ℕ × ℤ)
collected_terms [] = []
collected_terms (t ∷ ts) = add_term t.0 t.1 (collected_terms ts)

abbrev pub with_times : ℤ → Floor → Floor
with_times times f = roll-Floor (record { times = times; inner = (out-Floor f).inner; by = (out-Floor f).by })

-- the sum of the factors of the floors that are alike
abbrev pub times_of : List Floor → Floor → ℤ
times_of fs f = total (map (λ g. (out-Floor g).times) (filter (same_floor f) fs))

-- the first of those of the floors fs that are alike, each with the factors of all that are alike; what has factor 0 is gone
abbrev pub kept_floors : List Floor → List Floor → List Floor
kept_floors all fs =
    filter (λ f. not (int_eq (out-Floor f).times (pos 0)))
    (map (λ f. with_times (times_of all f) f) (distinct same_floor fs))

-- floors in the order of first occurrence, each with the factors of all that are alike
unfoldable pub collected_floors : List Floor → List Floor
collected_floors fs = kept_floors fs fs

-- the multiples of terms and floors
abbrev pub scaled_terms : ℤ → List (ℕ × ℤ) → List (ℕ × ℤ)
scaled_terms p ts = map (λ t. (t.0, p *ℤ t.1)) ts

abbrev pub multiple_floors : ℤ → List Floor → List Floor
multiple_floors p fs = map (λ f. with_times (p *ℤ (out-Floor f).times) f) fs

-- by 0 there are no floors, so that they do not count as occurring
abbrev pub scaled_floors : ℤ → List Floor → List Floor
scaled_floors p fs = if int_eq p (pos 0) then [] else multiple_floors p fs

-- the divisor is at least 1, and the form under the floor is within its limits, whatever the factor
pub record IsWide (f : Floor) : Type 0 where
  pub positive : pos 1 ≤ℤ (out-Floor f).by
  pub inner : IsForm (out-Floor f).inner

-- a form in which equal parts are collected
unfoldable pub collected_form : ℤ → List (ℕ × ℤ) → List Floor → Quasi
collected_form constant terms floors = roll-Quasi (record { constant = constant; terms = collected_terms terms; floors = collected_floors floors })

-- the sum of multiples of forms
abbrev pub combined_form : List (ℤ × Quasi) → Quasi
combined_form ms =
    collected_form (total (map (λ m. m.0 *ℤ (out-Quasi m.1).constant) ms))
    (flat_map (λ m. scaled_terms m.0 (out-Quasi m.1).terms) ms)
    (flat_map (λ m. scaled_floors m.0 (out-Quasi m.1).floors) ms)

-- a plus a multiple of b
abbrev pub sum_form : Quasi → ℤ → Quasi → Quasi
sum_form a times b = combined_form ((pos 1, a) ∷ (times, b) ∷ [])

-- a form without parts but its constant
abbrev pub constant_form : ℤ → Quasi
constant_form c = affine c []

-- the quotient of a form, rounded down
unfoldable pub floor_form : Quasi → ℤ → Quasi
floor_form a by = roll-Quasi (record {
  constant = pos 0;
  terms = [];
  floors = roll-Floor (record { times = pos 1; inner = a; by = by }) ∷ [];
})

-- ---- forms in the place of variables

-- each form with the factor of its variable
abbrev pub put_parts : List ℕ → List Quasi → List (ℕ × ℤ) → List (ℤ × Quasi)
put_parts [] bs ts = []
put_parts (v ∷ vs) [] ts = []
put_parts (v ∷ vs) (b ∷ bs) ts = (factor_of v ts, b) ∷ put_parts vs bs ts

-- the form without the terms of the variables
abbrev pub without_terms : List ℕ → Quasi-F Floor Quasi → Quasi
without_terms vs q = roll-Quasi (record { constant = q.constant; terms = filter (λ t. not (is_among vs t.0)) q.terms; floors = q.floors })

-- one form, with the forms put in under its floors: what is put for the variables comes first, in their order
abbrev pub put_step : List ℕ → List Quasi → Quasi-F Floor Quasi → Quasi
put_step vs bs q = combined_form (put_parts vs bs q.terms ++ (pos 1, without_terms vs q) ∷ [])

-- the same of a form, over its floors with the others put in
abbrev pub put_over : List ℕ → List Quasi → Quasi → List Floor → Quasi
put_over vs bs q floors = put_step vs bs (record { constant = (out-Quasi q).constant; terms = (out-Quasi q).terms; floors = floors })

abbrev pub put_floor_step : Floor-F Floor Quasi → Floor
put_floor_step f = roll-Floor f

-- the form with other forms in the places of the different variables, all at once, under floors too
unfoldable pub put_form : List ℕ → List Quasi → Quasi → Quasi
put_form vs bs = fold-Quasi Floor Quasi put_floor_step (put_step vs bs)
