-- Accesses that are the same are equal.
use Rattle.std.proofs.Common.{◌≡◌, ℕ, true, false, nat_eq, List, [], ◌∷◌, arith, refl, ap₂, subst}
use Rattle.std.specs.Cmp.Lexicographic.{pointwise}
use Rattle.std.proofs.lemmas.Bool.Decides.{nat_tests}
use Rattle.affine_rows.specs.declared.quasi.Quasi.{Quasi}
use Rattle.expr_tree.specs.declared.tree.Cell.{Cell}
use Rattle.expr_tree.specs.declared.tree.Cell.TheVariants.{Array, Temp}
use Rattle.quasi_forms.specs.Alike.{same_form}
use Rattle.quasi_forms.proofs.Likeness.{both, same_form-is}
use Rattle.kernel_ir.specs.Limits.{same_access}
use Rattle.quasi_forms.proofs.Different.{Through}

places_same : (ps qs : List Quasi) → pointwise same_form ps qs ≡ true → ps ≡ qs
places_same [] [] h = refl
places_same [] (q ∷ qs) h = absurd (let no : false ≡ true = h in cc)
places_same (p ∷ ps) [] h = absurd (let no : false ≡ true = h in cc)
places_same (p ∷ ps) (q ∷ qs) h =
    let parts = both (same_form p q) (pointwise same_form ps qs) h in
    ap₂ (λ (x : Quasi) (xs : List Quasi). x ∷ xs) (same_form-is p q parts.0) (places_same ps qs parts.1)

numbers_same : (n m : ℕ) → nat_eq n m ≡ true → n ≡ m
numbers_same n m h = grind (arith, nat_tests)

access_same : (a b : Cell × List Quasi) → same_access a b ≡ true → a ≡ b
access_same (Array n, p) (Array m, q) h =
    let parts = both (nat_eq n m) (pointwise same_form p q) h in
    ap₂ (λ (k : ℕ) (xs : List Quasi). (Array k, xs)) (numbers_same n m parts.0) (places_same p q parts.1)
access_same (Array n, p) (Temp m, q) h = absurd (let no : false ≡ true = h in cc)
access_same (Temp n, p) (Array m, q) h = absurd (let no : false ≡ true = h in cc)
access_same (Temp n, p) (Temp m, q) h =
    let parts = both (nat_eq n m) (pointwise same_form p q) h in
    ap₂ (λ (k : ℕ) (xs : List Quasi). (Temp k, xs)) (numbers_same n m parts.0) (places_same p q parts.1)

pub accesses_through : Through same_access
accesses_through f g h later first = subst (λ (x : Cell × List Quasi). same_access f x ≡ true) (access_same g h later) first
