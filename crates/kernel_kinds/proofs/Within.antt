-- Uses of rules without those of rules that are not there.
use Rattle.std.proofs.Common.{◌≡◌, ℕ, zero, suc, ◌<◌, ◌≤◌, Bool, true, false, ◌&&◌, ◌||◌, nat_eq, nat_lt, List, [], ◌∷◌, ◌++◌, map, flat_map, length, refl, sym, ap, ap₂, subst, ◌∙◌, ◌⊎◌, inl, inr, ⊎_elim, arith}
use Rattle.std.proofs.lemmas.Bool.{true≢false, ltb-true, ltb-false, lt-ltb}
use Rattle.std.proofs.lemmas.List.Elements.{filter-append}
use Rattle.expr_tree.specs.Scenes.{is_among}
use Rattle.type_infer.specs.Orders.{used_by, uses_along, UsesRules, HasNoCycle, reached}
use Rattle.type_infer.proofs.Walks.{same_number, or_cases, or_right}
use Rattle.kernel_kinds.specs.Tables.{within}

pub true_or_false : (b : Bool) → (b ≡ true) ⊎ (b ≡ false)
true_or_false true = inl refl
true_or_false false = inr refl

both_first : (a b : Bool) → (a && b) ≡ true → a ≡ true
both_first true b e = refl
both_first false b e = e

both_second : (a b : Bool) → (a && b) ≡ true → b ≡ true
both_second true b e = e
both_second false b e = absurd (true≢false (sym e))

-- a rule that is not there uses none
pub past_none : (uses : List (List ℕ)) (r : ℕ) → length uses ≤ r → used_by uses r ≡ []
past_none [] r h = refl
past_none (us ∷ uses) zero h = absurd (omega (arith, h))
past_none (us ∷ uses) (suc r) h = past_none uses r (omega (arith, h))

module _ (count : ℕ) where
  -- ---- one list

  kept : (u : ℕ) (us : List ℕ) → nat_lt u count ≡ true → within count (u ∷ us) ≡ u ∷ within count us
  kept u us e = rw e refl

  dropped : (u : ℕ) (us : List ℕ) → nat_lt u count ≡ false → within count (u ∷ us) ≡ within count us
  dropped u us e = rw e refl

  -- the numbers that are kept are among them, and less than the count
  pub among_within : (us : List ℕ) (v : ℕ) → is_among (within count us) v ≡ true → (is_among us v ≡ true) × (v < count)
  among_within [] v h = absurd (true≢false (sym h))
  among_within (u ∷ us) v h = ⊎_elim {C = (is_among (u ∷ us) v ≡ true) × (v < count)}
      (λ less. ⊎_elim {C = (is_among (u ∷ us) v ≡ true) × (v < count)}
      (λ same. (ap (λ b. b || is_among us v) same, subst (λ z. z < count) (same_number u v same) (ltb-true u count less)))
      (λ later. let k = among_within us v later in (or_right (nat_eq u v) (is_among us v) k.0, k.1))
      (or_cases (nat_eq u v) (is_among (within count us) v) (subst (λ z. is_among z v ≡ true) (kept u us less) h)))
      (λ more. let k = among_within us v (subst (λ z. is_among z v ≡ true) (dropped u us more) h) in (or_right (nat_eq u v) (is_among us v) k.0, k.1))
      (true_or_false (nat_lt u count))

  -- those that are less are kept
  pub same_among : (us : List ℕ) (v : ℕ) → v < count → is_among (within count us) v ≡ is_among us v
  same_among [] v less = refl
  same_among (u ∷ us) v less = ⊎_elim
      (λ is. ap (λ z. is_among z v) (kept u us is) ∙ ap (λ b. nat_eq u v || b) (same_among us v less))
      (λ more. ap (λ z. is_among z v) (dropped u us more) ∙ (same_among us v less
      ∙ ⊎_elim {C = is_among us v ≡ is_among (u ∷ us) v}
      (λ same. absurd (true≢false (sym (subst (λ z. nat_lt z count ≡ true) (sym (same_number u v same)) (lt-ltb v count less)) ∙ more)))
      (λ other. ap (λ b. b || is_among us v) (sym other)) (true_or_false (nat_eq u v))))
      (true_or_false (nat_lt u count))

  -- ---- the uses of each rule

  pub used_within : (uses : List (List ℕ)) (r : ℕ) → used_by (map (within count) uses) r ≡ within count (used_by uses r)
  used_within [] r = refl
  used_within (us ∷ uses) zero = refl
  used_within (us ∷ uses) (suc r) = used_within uses r

  pub length_within : (uses : List (List ℕ)) → length (map (within count) uses) ≡ length uses
  length_within [] = refl
  length_within (us ∷ uses) = ap suc (length_within uses)

  along_within : (uses : List (List ℕ)) (way : List ℕ) (r : ℕ) → uses_along (map (within count) uses) r way ≡ true → uses_along uses r way ≡ true
  along_within uses [] r e = refl
  along_within uses (next ∷ way) r e =
      let used = subst (λ z. is_among z next ≡ true) (used_within uses r)
      (both_first (is_among (used_by (map (within count) uses) r) next) (uses_along (map (within count) uses) next way) e) in
      let here = (among_within (used_by uses r) next used).0 in
      let later = along_within uses way next (both_second (is_among (used_by (map (within count) uses) r) next)
      (uses_along (map (within count) uses) next way) e) in
      ap₂ (λ (a b : Bool). a && b) here later

  -- no rule reaches itself by fewer uses
  pub no_cycle_within : (uses : List (List ℕ)) → HasNoCycle uses → HasNoCycle (map (within count) uses)
  no_cycle_within uses none r way = ⊎_elim
      (λ is. absurd (true≢false (sym (along_within uses (way ++ r ∷ []) r is) ∙ none r way)))
      (λ not. not) (true_or_false (uses_along (map (within count) uses) r (way ++ r ∷ [])))

  -- ---- what is reached

  past : (r : ℕ) → nat_lt r count ≡ false → count ≤ r
  past r e = ltb-false r count e

  module _ (uses : List (List ℕ)) (few : length uses ≤ count) where
    used_flat : (rs : List ℕ) → within count (flat_map (used_by uses) rs) ≡ flat_map (used_by (map (within count) uses)) (within count rs)
    used_flat [] = refl
    used_flat (r ∷ rs) = ⊎_elim
        (λ less. filter-append (λ n. nat_lt n count) (used_by uses r) (flat_map (used_by uses) rs)
        ∙ (ap₂ (λ (xs ys : List ℕ). xs ++ ys) (sym (used_within uses r)) (used_flat rs)
        ∙ ap (flat_map (used_by (map (within count) uses))) (sym (kept r rs less))))
        (λ more. filter-append (λ n. nat_lt n count) (used_by uses r) (flat_map (used_by uses) rs)
        ∙ (ap (λ xs. within count xs ++ within count (flat_map (used_by uses) rs)) (past_none uses r (omega (arith, few, past r more)))
        ∙ (used_flat rs ∙ ap (flat_map (used_by (map (within count) uses))) (sym (dropped r rs more)))))
        (true_or_false (nat_lt r count))

    pub reached_within : (n : ℕ) (rs : List ℕ) → within count (reached uses n rs) ≡ reached (map (within count) uses) n (within count rs)
    reached_within zero rs = refl
    reached_within (suc n) rs =
        filter-append (λ n. nat_lt n count) rs (reached uses n (flat_map (used_by uses) rs))
        ∙ ap (λ z. within count rs ++ z) (reached_within n (flat_map (used_by uses) rs) ∙ ap (reached (map (within count) uses) n) (used_flat rs))

  -- only rules that there are are used
  pub uses_rules_within : (uses : List (List ℕ)) → count ≤ length uses → UsesRules (map (within count) uses)
  uses_rules_within uses few r v h =
      let less = (among_within (used_by uses r) v (subst (λ z. is_among z v ≡ true) (used_within uses r) h)).1 in
      omega (arith, less, few, length_within uses)
