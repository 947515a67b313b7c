-- The variables of one sort: their names are those of the declarations of the sort, and each is the place of a name.
use Rattle.std.proofs.Common.{◌≡◌, ℕ, ◌+◌, ◌≤◌, arith, Bool, true, false, cond, List, [], ◌∷◌, ◌++◌, map, length, slice_get, Some, refl, sym, ap, ◌∙◌, append_assoc, length-append}
use Rattle.std.specs.Prelude.{flat_map, nat_lt}
use Rattle.std.specs.List.{list_all, filter}
use Rattle.std.proofs.lemmas.Bool.{and_from, lt-ltb}
use Rattle.std.proofs.lemmas.List.{length-map, map-append}
use Rattle.kernel_ir.specs.NameSpace.{name_or_empty}
use Rattle.untyped.specs.declared.scope.Role.{Role}
use Rattle.kernel_names.specs.declared.said.Sort.{Sort}
use Rattle.kernel_names.specs.declared.said.Sort.TheVariants as sort
use Rattle.kernel_names.specs.declared.said.Said.{Said}
use Rattle.kernel_names.specs.Roles.{role_behind, roles_behind, parameter_in, iname_in, is_parameter}

slice_get_at : {X : Type 0} (before : List X) (x : X) (behind : List X) → slice_get (before ++ x ∷ behind) (length before) ≡ Some x
slice_get_at [] x behind = refl
slice_get_at (y ∷ before) x behind = slice_get_at before x behind

name_test : (b : Bool) (name : ℕ → List ℕ) (v : ℕ) (d : Said) (vs : List ℕ) (ds : List Said) → name v ≡ d.name → map name vs ≡ map (λ x. x.name) ds
    → map name (cond b (v ∷ []) [] ++ vs) ≡ map (λ x. x.name) (cond b (d ∷ ds) ds)
name_test true name v d vs ds here rest = ap (λ (n : List ℕ). n ∷ map name vs) here ∙ ap (λ (ns : List (List ℕ)). d.name ∷ ns) rest
name_test false name v d vs ds here rest = rest

within_test : (b : Bool) (n v : ℕ) (vs : List ℕ) → nat_lt v n ≡ true → list_all (λ u. nat_lt u n) vs ≡ true
    → list_all (λ u. nat_lt u n) (cond b (v ∷ []) [] ++ vs) ≡ true
within_test true n v vs here rest = and_from (nat_lt v n) (list_all (λ u. nat_lt u n) vs) here rest
within_test false n v vs here rest = rest

-- the variables of one sort, picked from the roles
module _ (pick : Role → List ℕ) (is : Sort → Bool) (picks : (before : List Said) (s : Sort)
    → pick (role_behind before s) ≡ cond (is s) (length before ∷ []) []) where
  pub picked_names : (names : List (List ℕ)) (before ds : List Said) (rest : List (List ℕ)) → names ≡ map (λ d. d.name) before ++ (map (λ d. d.name) ds ++ rest)
      → map (λ v. name_or_empty (slice_get names v)) (flat_map pick (roles_behind before ds)) ≡ map (λ d. d.name) (filter (λ d. is d.sort) ds)
  picked_names names before [] rest is_all = refl
  picked_names names before (d ∷ ds) rest is_all =
      let name : ℕ → List ℕ = λ v. name_or_empty (slice_get names v) in
      let later = flat_map pick (roles_behind (before ++ d ∷ []) ds) in
      let at = ap (λ (ns : List (List ℕ)). name_or_empty (slice_get ns (length before))) is_all
      ∙ (ap (λ (n : ℕ). name_or_empty (slice_get (map (λ (x : Said). x.name) before ++ d.name ∷ (map (λ x. x.name) ds ++ rest)) n))
      (sym (length-map before (λ (x : Said). x.name)))
      ∙ ap name_or_empty (slice_get_at (map (λ (x : Said). x.name) before) d.name (map (λ x. x.name) ds ++ rest))) in
      let joined = is_all ∙ (sym (append_assoc (map (λ (x : Said). x.name) before) (d.name ∷ []) (map (λ x. x.name) ds ++ rest))
      ∙ ap (λ (ns : List (List ℕ)). ns ++ (map (λ (x : Said). x.name) ds ++ rest)) (sym (map-append (λ (x : Said). x.name) before (d ∷ [])))) in
      ap (λ (vs : List ℕ). map name (vs ++ later)) (picks before d.sort)
      ∙ name_test (is d.sort) name (length before) d later (filter (λ x. is x.sort) ds) at (picked_names names (before ++ d ∷ []) ds rest joined)

  pub picked_within : (n : ℕ) (before ds : List Said) → length before + length ds ≤ n
      → list_all (λ v. nat_lt v n) (flat_map pick (roles_behind before ds)) ≡ true
  picked_within n before [] few = refl
  picked_within n before (d ∷ ds) few =
      let later = flat_map pick (roles_behind (before ++ d ∷ []) ds) in
      let long = length-append before (d ∷ []) in
      ap (λ (vs : List ℕ). list_all (λ u. nat_lt u n) (vs ++ later)) (picks before d.sort)
      ∙ within_test (is d.sort) n (length before) later (lt-ltb (length before) n (omega (arith, few)))
      (picked_within n (before ++ d ∷ []) ds (omega (arith, few, long)))

-- ---- parameters and inames

abbrev pub is_iname : Sort → Bool
is_iname sort.Iname = true
is_iname _ = false

pub picks_parameter : (before : List Said) (s : Sort) → parameter_in (role_behind before s) ≡ cond (is_parameter s) (length before ∷ []) []
picks_parameter before sort.Parameter = refl
picks_parameter before sort.Iname = refl
picks_parameter before (sort.Array places stored) = refl
picks_parameter before (sort.Temp places) = refl
picks_parameter before sort.Rule = refl
picks_parameter before sort.Own = refl

pub picks_iname : (before : List Said) (s : Sort) → iname_in (role_behind before s) ≡ cond (is_iname s) (length before ∷ []) []
picks_iname before sort.Parameter = refl
picks_iname before sort.Iname = refl
picks_iname before (sort.Array places stored) = refl
picks_iname before (sort.Temp places) = refl
picks_iname before sort.Rule = refl
picks_iname before sort.Own = refl
