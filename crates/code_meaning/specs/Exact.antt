-- Index values as the code works them out: in text order, each product and sum within 64 signed bits.
use Rattle.std.specs.Prelude.{◌^◌, ℤ, pos, neg_ℤ, ◌+ℤ◌, ◌*ℤ◌, Bool, true, false, ◌&&◌, int_lt, int_le, if◌then◌else◌, List, [], ◌∷◌, ◌++◌, map, Option, Some, None, option_map, option_and_then, unsigned_abs}
use Rattle.std.specs.Int.{int_div_euclid}
use Rattle.std.specs.Ordering.{int_eq}
use Rattle.affine_rows.specs.declared.quasi.Quasi.{Quasi, Quasi-F, fold-Quasi}
use Rattle.affine_rows.specs.declared.quasi.Floor.{Floor-F}
use Rattle.affine_rows.specs.Rows.{Env}
use Rattle.expr_tree.specs.declared.row.QuasiRow.{QuasiRow}
use Rattle.code_tree.specs.declared.code.Bound.{Bound, Bound-F, fold-Bound}
use Rattle.code_tree.specs.declared.code.Flat.{Flat}
use Rattle.code_tree.specs.declared.code.Flat.TheVariants as flat

-- the number, where 64 signed bits hold it
abbrev pub exact : ℤ → Option ℤ
exact z = if int_le (neg_ℤ (pos (2 ^ 63))) z && int_lt z (pos (2 ^ 63)) then Some z else None

-- where there are both
abbrev pub both : {A B C : Type 0} → (A → B → C) → Option A → Option B → Option C
both f None b = None
both f (Some a) None = None
both f (Some a) (Some b) = Some (f a b)

-- the sum of two exact numbers, exact itself
abbrev pub exact_sum : Option ℤ → Option ℤ → Option ℤ
exact_sum a b = option_and_then exact (both (λ x y. x +ℤ y) a b)

-- their product
abbrev pub exact_product : Option ℤ → Option ℤ → Option ℤ
exact_product a b = option_and_then exact (both (λ x y. x *ℤ y) a b)

-- The sum with one part more: a factor and the number that it multiplies. The first part is one product; a later one is a product without its sign, which is then added or taken away.
abbrev pub add_part : Bool → ℤ → ℤ → ℤ → Option ℤ
add_part true sum factor number = exact (factor *ℤ number)
add_part false sum factor number =
    option_and_then (λ p. exact (sum +ℤ (factor *ℤ number))) (exact (pos (unsigned_abs factor) *ℤ number))

-- all parts, one after the other
abbrev pub sum_parts : Bool → ℤ → List (ℤ × Option ℤ) → Option ℤ
sum_parts first sum [] = Some sum
sum_parts first sum (part ∷ parts) = option_and_then (λ now. sum_parts false now parts) (option_and_then (add_part first sum part.0) part.1)

-- a floor's factor, and the floor itself
abbrev pub floor_part : Floor-F (ℤ × Option ℤ) (Option ℤ) → ℤ × Option ℤ
floor_part f = (f.times, option_map (λ v. int_div_euclid v f.by) f.inner)

-- the terms, then the floors, then the constant
abbrev pub form_parts : Env → Quasi-F (ℤ × Option ℤ) (Option ℤ) → Option ℤ
form_parts env q =
    option_and_then (λ sum. exact (sum +ℤ q.constant)) (sum_parts true (pos 0) (map (λ t. (t.1, Some (env t.0))) q.terms ++ q.floors))

-- a form's value, or None where it overflows on the way
abbrev pub exact_form : Env → Quasi → Option ℤ
exact_form env = fold-Quasi (ℤ × Option ℤ) (Option ℤ) floor_part (form_parts env)

-- the lesser number
abbrev pub lesser : ℤ → ℤ → ℤ
lesser a b = if int_lt a b then a else b

-- the greater number
abbrev pub greater : ℤ → ℤ → ℤ
greater a b = if int_lt a b then b else a

-- the numbers of a list brought together from its end, as the text does
abbrev pub chosen : (ℤ → ℤ → ℤ) → List (Option ℤ) → Option ℤ
chosen choice [] = None
chosen choice (b ∷ []) = b
chosen choice (b ∷ c ∷ bs) = both choice b (chosen choice (c ∷ bs))

-- one bound, with the numbers of the bounds of a list in their place
abbrev pub bound_step : Env → Bound-F (Option ℤ) → Option ℤ
bound_step env (Bound-F.Form q) = exact_form env q
bound_step env (Bound-F.FloorOf q by) = option_map (λ v. int_div_euclid v by) (exact_form env q)
bound_step env (Bound-F.MinusFloorOf q by) = option_and_then (λ v. exact (neg_ℤ (int_div_euclid v by))) (exact_form env q)
bound_step env (Bound-F.Least bounds) = chosen lesser bounds
bound_step env (Bound-F.Greatest bounds) = chosen greater bounds

-- a bound's number, or None where it overflows on the way
abbrev pub exact_bound : Env → Bound → Option ℤ
exact_bound env = fold-Bound (Option ℤ) (bound_step env)

-- what the places before came to, times each next shape entry, plus the place there
abbrev pub horner : Env → Option ℤ → List Quasi → List Quasi → Option ℤ
horner env so_far [] shapes = so_far
horner env so_far (place ∷ places) [] = None
horner env so_far (place ∷ places) (shape ∷ shapes) =
    horner env (exact_sum (exact_product so_far (exact_form env shape)) (exact_form env place)) places shapes

-- a subscript; the shape entries are those after the first
abbrev pub exact_flat : Env → Flat → Option ℤ
exact_flat env (flat.Form q) = exact_form env q
exact_flat env (flat.Horner [] shapes) = None
exact_flat env (flat.Horner (place ∷ places) shapes) = horner env (exact_form env place) places shapes

-- whether a row holds where its form has this value
abbrev pub holds_with : QuasiRow → ℤ → Bool
holds_with row z = if row.equal then int_eq z (pos 0) else int_le (pos 0) z

-- whether all rows hold, None where a row that is reached overflows
abbrev pub exact_rows : Env → List QuasiRow → Option Bool
exact_rows env [] = Some true
exact_rows env (row ∷ rows) = option_and_then (λ z. if holds_with row z then exact_rows env rows else Some false) (exact_form env row.form)
