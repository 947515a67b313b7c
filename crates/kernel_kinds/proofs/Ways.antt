-- Ways from rule to rule, with and without the counts of arguments.
use Rattle.std.proofs.Common.{◌≡◌, ℕ, zero, suc, ◌<◌, ◌≤◌, Bool, true, false, ◌&&◌, nat_eq, List, [], ◌∷◌, ◌++◌, map, length, refl, sym, ap, ap₂, subst, ◌∙◌, ⊎_elim, arith}
use Rattle.std.proofs.lemmas.Bool.{cases_lt}
use Rattle.affine_rows.proofs.NameSets.{any_map}
use Rattle.expr_tree.specs.Scenes.{is_among}
use Rattle.subst_rules.specs.Uses.{calls_at, walks}
use Rattle.subst_rules.specs.Walks as walk
use Rattle.type_infer.specs.Orders.{HasNoCycle, used_by, uses_along}
use Rattle.kernel_kinds.specs.Calls.{rules_in}
use Rattle.kernel_kinds.specs.Refused.{IsFirstCycle}
use Rattle.kernel_kinds.proofs.Within.{past_none}

used_is : (bodies : List (List (ℕ × ℕ))) (r : ℕ) → used_by (map rules_in bodies) r ≡ rules_in (calls_at bodies r)
used_is [] r = refl
used_is (cs ∷ bodies) zero = refl
used_is (cs ∷ bodies) (suc r) = used_is bodies r

along_is : (bodies : List (List (ℕ × ℕ))) (way : List ℕ) (r : ℕ) → uses_along (map rules_in bodies) r way ≡ walks bodies r way
along_is bodies [] r = refl
along_is bodies (next ∷ way) r = ap₂ (λ (p q : Bool). p && q)
    (ap (λ z. is_among z next) (used_is bodies r) ∙ sym (any_map (λ (c : ℕ × ℕ). c.0) (λ u. nat_eq u next) (calls_at bodies r))) (along_is bodies way next)

-- a rule that is not there reaches none
way_past : (uses : List (List ℕ)) (way : List ℕ) (r : ℕ) → length uses ≤ r → uses_along uses r (way ++ r ∷ []) ≡ false
way_past uses [] r h = ap (λ us. is_among us r && true) (past_none uses r h)
way_past uses (next ∷ way) r h = ap (λ us. is_among us next && uses_along uses next (way ++ r ∷ [])) (past_none uses r h)

-- the rules below a count do not reach themselves
abbrev pub NoneBelow : List (List ℕ) → ℕ → Type 0
NoneBelow uses count = (earlier : ℕ) (way : List ℕ) → earlier < count → uses_along uses earlier (way ++ earlier ∷ []) ≡ false

length_rules : (bodies : List (List (ℕ × ℕ))) → length (map rules_in bodies) ≡ length bodies
length_rules [] = refl
length_rules (cs ∷ bodies) = ap suc (length_rules bodies)

module _ (bodies : List (List (ℕ × ℕ))) (count : ℕ) where
  pub no_cycle : length bodies ≤ count → NoneBelow (map rules_in bodies) count → HasNoCycle (map rules_in bodies)
  no_cycle all none r way = ⊎_elim (λ below. none r way below)
      (λ past. way_past (map rules_in bodies) way r (omega (arith, all, past, length_rules bodies))) (cases_lt r count)

  pub first_cycle : NoneBelow (map rules_in bodies) count → walk.ReachesItself bodies count true → IsFirstCycle (map rules_in bodies) count
  first_cycle none r = record { reaches = (r.way, along_is bodies (r.way ++ count ∷ []) count ∙ r.walks); first = none }

  -- one rule more
  pub none_more : NoneBelow (map rules_in bodies) count → walk.ReachesItself bodies count false → (next : ℕ) → next ≡ suc count
      → NoneBelow (map rules_in bodies) next
  none_more none not next is earlier way h = ⊎_elim (λ below. none earlier way below)
      (λ past. let same : count ≡ earlier = omega (arith, h, past, is) in
      subst (λ z. uses_along (map rules_in bodies) z (way ++ z ∷ []) ≡ false) same (along_is bodies (way ++ count ∷ []) count ∙ not way))
      (cases_lt earlier count)
