-- Different variables with one more.
use Rattle.std.proofs.Common.{◌≡◌, ℕ, Bool, true, false, ◌&&◌, ◌||◌, List, [], ◌∷◌, ◌++◌, nat_eq, if◌then◌else◌, refl}
use Rattle.std.specs.List.{list_all, list_any}
use Rattle.std.proofs.lemmas.List.Folds.{list_all-append}
use Rattle.std.proofs.lemmas.Grind.{common_steps}
use Rattle.expr_tree.specs.Scenes.{is_among}
use Rattle.quasi_forms.specs.Placed.{vars_differ}

both : (a b : Bool) → (a && b) ≡ true → (a ≡ true) × (b ≡ true)
both true b h = (refl, h)
both false b h = absurd (let no : false ≡ true = h in cc)

neither : (a b : Bool) → (a || b) ≡ false → (a ≡ false) × (b ≡ false)
neither true b h = absurd (let no : true ≡ false = h in cc)
neither false b h = (refl, h)

one_more : (v u : ℕ) (us : List ℕ) → list_all (λ w. if nat_eq v w then false else true) us ≡ true → nat_eq v u ≡ false → list_all (λ w. if nat_eq v w then false else true) (us ++ u ∷ []) ≡ true
one_more v u us h e = rw (list_all-append (λ w. if nat_eq v w then false else true) us (u ∷ []), h, e) refl

pub differ_more : (vs : List ℕ) (v : ℕ) → vars_differ vs ≡ true → is_among vs v ≡ false → vars_differ (vs ++ v ∷ []) ≡ true
differ_more [] v h e = refl
differ_more (u ∷ us) v h e =
    let parts = both (list_all (λ w. if nat_eq u w then false else true) us) (vars_differ us) h in
    let apart = neither (nat_eq u v) (is_among us v) e in
    rw (one_more u v us parts.0 apart.0, differ_more us v parts.1 apart.1) refl
