-- The variables of forms.
use Rattle.std.proofs.Common.{◌≡◌, ℕ, ℤ, Bool, true, false, ◌&&◌, List, [], ◌∷◌, map, refl, sym, ap, ap₂, ◌∙◌}
use Rattle.std.specs.List.{list_all}
use Rattle.affine_rows.specs.declared.quasi.Quasi.{Quasi, out-Quasi, fold_out-Quasi}
use Rattle.affine_rows.specs.declared.quasi.Floor.{Floor, out-Floor, fold-Floor, fold_out-Floor}
use Rattle.expr_tree.specs.Scenes.{each_var}

floor_passes : (ℕ → Bool) → Floor → Bool
floor_passes test = fold-Floor Bool Bool (λ f. f.inner) (λ q. list_all (λ t. test t.0) q.terms && list_all (λ b. b) q.floors)

floor_passes-out : (test : ℕ → Bool) (f : Floor) → floor_passes test f ≡ each_var test (out-Floor f).inner
unfolding floor_passes
floor_passes-out test = fold_out-Floor Bool Bool (λ f. f.inner) (λ q. list_all (λ t. test t.0) q.terms && list_all (λ b. b) q.floors)

floors_pass : (test : ℕ → Bool) (fs : List Floor) → list_all (λ b. b) (map (floor_passes test) fs) ≡ list_all (λ f. each_var test (out-Floor f).inner) fs
floors_pass test [] = refl
floors_pass test (f ∷ fs) = ap₂ (λ (a b : Bool). a && b) (floor_passes-out test f) (floors_pass test fs)

form_passes : (test : ℕ → Bool) (q : Quasi) → each_var test q ≡ (list_all (λ t. test t.0) (out-Quasi q).terms && list_all (λ b. b) (map (floor_passes test) (out-Quasi q).floors))
unfolding floor_passes
form_passes test = fold_out-Quasi Bool Bool (λ f. f.inner) (λ q. list_all (λ t. test t.0) q.terms && list_all (λ b. b) q.floors)

-- the variables of a form are those of its terms and of the forms under its floors
pub each_var-out : (test : ℕ → Bool) (q : Quasi) → each_var test q ≡ (list_all (λ t. test t.0) (out-Quasi q).terms && list_all (λ f. each_var test (out-Floor f).inner) (out-Quasi q).floors)
each_var-out test q = form_passes test q ∙ ap (λ (b : Bool). list_all (λ t. test t.0) (out-Quasi q).terms && b) (floors_pass test (out-Quasi q).floors)

parts : (test : ℕ → Bool) (q : Quasi) (ts : List (ℕ × ℤ)) (fs : List Floor) → ts ≡ (out-Quasi q).terms → fs ≡ (out-Quasi q).floors →
    (list_all (λ t. test t.0) ts && list_all (λ f. each_var test (out-Floor f).inner) fs) ≡ each_var test q
parts test q ts fs t f =
    ap₂ (λ (xs : List (ℕ × ℤ)) (ys : List Floor). list_all (λ u. test u.0) xs && list_all (λ g. each_var test (out-Floor g).inner) ys) t f ∙ sym (each_var-out test q)

pub each_passes : (test : ℕ → Bool) (q : Quasi) (ts : List (ℕ × ℤ)) (fs : List Floor) (a b : Bool) → ts ≡ (out-Quasi q).terms → fs ≡ (out-Quasi q).floors → a ≡ list_all (λ t. test t.0) ts → a ≡ true →
    b ≡ list_all (λ f. each_var test (out-Floor f).inner) fs → b ≡ each_var test q
each_passes test q ts fs a b t f own so rest = ap₂ (λ (x y : Bool). x && y) (sym so ∙ own) rest ∙ parts test q ts fs t f

pub one_fails : (test : ℕ → Bool) (q : Quasi) (ts : List (ℕ × ℤ)) (a : Bool) → ts ≡ (out-Quasi q).terms → a ≡ list_all (λ t. test t.0) ts → a ≡ false → a ≡ each_var test q
one_fails test q ts a t own so =
    so ∙ (ap (λ (x : Bool). x && list_all (λ g. each_var test (out-Floor g).inner) (out-Quasi q).floors) (sym so ∙ own) ∙ parts test q ts (out-Quasi q).floors t refl)
