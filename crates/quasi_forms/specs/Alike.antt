-- When two forms, and two floors, are alike.
use Rattle.std.specs.Prelude.{ℕ, ℤ, Bool, true, false, not, ◌&&◌, nat_eq, if◌then◌else◌, List, [], ◌∷◌, ◌++◌, map, filter}
use Rattle.std.specs.List.{list_any}
use Rattle.std.specs.Ordering.{int_eq}
use Rattle.std.specs.Cmp.Lexicographic.{pointwise}
use Rattle.affine_rows.specs.declared.quasi.Quasi.{Quasi, Quasi-F, out-Quasi, fold-Quasi}
use Rattle.affine_rows.specs.declared.quasi.Floor.{Floor, Floor-F, out-Floor, fold-Floor}

-- the tests hold of the elements at their places, and there are as many
abbrev pub all_pass : {X : Type 0} → List (X → Bool) → List X → Bool
all_pass [] [] = true
all_pass [] (x ∷ xs) = false
all_pass (t ∷ ts) [] = false
all_pass (t ∷ ts) (x ∷ xs) = t x && all_pass ts xs

abbrev pub same_terms : List (ℕ × ℤ) → List (ℕ × ℤ) → Bool
same_terms = pointwise (λ t u. nat_eq t.0 u.0 && int_eq t.1 u.1)

-- one floor, or one form, with the test of each part in its place
abbrev pub floor_test : Floor-F (Floor → Bool) (Quasi → Bool) → Floor → Bool
floor_test f g = int_eq f.times (out-Floor g).times && (int_eq f.by (out-Floor g).by && f.inner (out-Floor g).inner)

abbrev pub form_test : Quasi-F (Floor → Bool) (Quasi → Bool) → Quasi → Bool
form_test q r = int_eq q.constant (out-Quasi r).constant && (same_terms q.terms (out-Quasi r).terms && all_pass q.floors (out-Quasi r).floors)

-- whether two forms have the same constant, terms and floors
abbrev pub same_form : Quasi → Quasi → Bool
same_form = fold-Quasi (Floor → Bool) (Quasi → Bool) floor_test form_test

-- whether two floors have the same factor, form and divisor
abbrev pub same_factored : Floor → Floor → Bool
same_factored = fold-Floor (Floor → Bool) (Quasi → Bool) floor_test form_test

-- whether two lists have the same floors in the same order
abbrev pub same_floors : List Floor → List Floor → Bool
same_floors fs gs = all_pass (map same_factored fs) gs

-- whether two floors are of the same form by the same divisor, whatever their factors
unfoldable pub same_floor : Floor → Floor → Bool
same_floor f g = int_eq (out-Floor f).by (out-Floor g).by && same_form (out-Floor f).inner (out-Floor g).inner

-- the first of those that are alike
abbrev pub distinct : {X : Type 0} → (X → X → Bool) → List X → List X
distinct same [] = []
distinct same (x ∷ xs) = x ∷ filter (λ y. not (same x y)) (distinct same xs)

-- one more, where none of those that are known is like it
abbrev pub with_new : {X : Type 0} → (X → X → Bool) → List X → X → List X
with_new same known x = if list_any (λ y. same y x) known then known else known ++ x ∷ []
