-- The variables of a form by its layer.
use Rattle.std.proofs.Common.{◌≡◌, ℕ, ℤ, List, [], ◌∷◌, ◌++◌, map, refl, sym, ap, ap₂, ◌∙◌, append_assoc}
use Rattle.std.specs.Prelude.{flat_map}
use Rattle.affine_rows.specs.declared.quasi.Quasi.{Quasi, out-Quasi, fold_out-Quasi}
use Rattle.affine_rows.specs.declared.quasi.Floor.{Floor, out-Floor, fold-Floor, fold_out-Floor}
use Rattle.untyped_parts.specs.Mentions.{vars_in}

floor_vars : Floor → List ℕ
floor_vars = fold-Floor (List ℕ) (List ℕ) (λ f. f.inner) (λ q. map (λ t. t.0) q.terms ++ flat_map (λ vs. vs) q.floors)

floor_vars-is : (f : Floor) → floor_vars f ≡ vars_in (out-Floor f).inner
unfolding floor_vars
floor_vars-is = fold_out-Floor (List ℕ) (List ℕ) (λ f. f.inner) (λ q. map (λ t. t.0) q.terms ++ flat_map (λ vs. vs) q.floors)

all_floors : (fs : List Floor) → flat_map (λ vs. vs) (map floor_vars fs) ≡ flat_map (λ f. vars_in (out-Floor f).inner) fs
all_floors [] = refl
all_floors (f ∷ fs) = ap₂ (λ (xs ys : List ℕ). xs ++ ys) (floor_vars-is f) (all_floors fs)

pub vars_in-out : (q : Quasi) → vars_in q ≡ map (λ t. t.0) (out-Quasi q).terms ++ flat_map (λ f. vars_in (out-Floor f).inner) (out-Quasi q).floors
unfolding floor_vars
vars_in-out q =
    fold_out-Quasi (List ℕ) (List ℕ) (λ f. f.inner) (λ q. map (λ t. t.0) q.terms ++ flat_map (λ vs. vs) q.floors) q
    ∙ ap (λ (vs : List ℕ). map (λ t. t.0) (out-Quasi q).terms ++ vs) (all_floors (out-Quasi q).floors)

-- the variables of the terms and then those under the floors are those of the form
pub all_vars : (q : Quasi) (old mid new : List ℕ) (ts : List (ℕ × ℤ)) (fs : List Floor) → ts ≡ (out-Quasi q).terms → fs ≡ (out-Quasi q).floors
    → mid ≡ old ++ map (λ t. t.0) ts → new ≡ mid ++ flat_map (λ f. vars_in (out-Floor f).inner) fs → new ≡ old ++ vars_in q
all_vars q old mid new ts fs same_terms same_floors first second =
    second ∙ (ap₂ (λ (xs : List ℕ) (gs : List Floor). xs ++ flat_map (λ f. vars_in (out-Floor f).inner) gs) first same_floors
    ∙ (ap (λ (us : List (ℕ × ℤ)). (old ++ map (λ t. t.0) us) ++ flat_map (λ f. vars_in (out-Floor f).inner) (out-Quasi q).floors) same_terms
    ∙ (append_assoc old (map (λ t. t.0) (out-Quasi q).terms) (flat_map (λ f. vars_in (out-Floor f).inner) (out-Quasi q).floors) ∙ ap (λ (vs : List ℕ). old ++ vs) (sym (vars_in-out q)))))
