-- The rules that are used, of those that there are.
use Rattle.std.proofs.Common.{◌≡◌, ℕ, suc, ◌<◌, true, List, [], ◌∷◌, length, refl, sym, ap, ap₂, subst, ◌∙◌, arith}
use Rattle.expr_tree.specs.Scenes.{is_among}
use Rattle.type_infer.specs.Orders.{HasNoCycle, UsesRules, reached}
use Rattle.untyped_parts.specs.declared.trees.RuleTree.{RuleTree}
use Rattle.kernel_kinds.specs.Calls.{HasNoUseCycle, rules_in, uses_of}
use Rattle.kernel_kinds.specs.Tables.{uses_among, within}
use Rattle.kernel_kinds.proofs.Within.{among_within, same_among, length_within, no_cycle_within, reached_within, uses_rules_within}

length_uses : (rules : List RuleTree) → length (uses_of rules) ≡ length rules
length_uses [] = refl
length_uses (r ∷ rules) = ap suc (length_uses rules)

module _ (rules : List RuleTree) (uses : List (List ℕ)) (are : uses ≡ uses_among rules) where
  pub uses_rules : UsesRules uses
  uses_rules = subst UsesRules (sym are) (uses_rules_within (length rules) (uses_of rules) (omega (arith, length_uses rules)))

  pub acyclic : HasNoUseCycle rules → HasNoCycle uses
  acyclic none = subst HasNoCycle (sym are) (no_cycle_within (length rules) (uses_of rules) none)

  length_among : length uses ≡ length rules
  length_among = ap length are ∙ (length_within (length rules) (uses_of rules) ∙ length_uses rules)

  module _ (calls : List (ℕ × ℕ)) (called : List ℕ) (from : called ≡ within (length rules) (rules_in calls)) where
    pub called_rules : (r : ℕ) → is_among called r ≡ true → r < length uses
    called_rules r h = let less = (among_within (length rules) (rules_in calls) r (subst (λ z. is_among z r ≡ true) from h)).1 in
        omega (arith, less, length_among)

    -- uses of rules that are not there do not count
    pub used_is : (r : ℕ) → r < length rules → is_among (reached uses (length uses) called) r ≡ is_among
        (reached (uses_of rules) (length rules) (rules_in calls)) r
    used_is r less =
        ap (λ n. is_among (reached uses n called) r) length_among
        ∙ (ap₂ (λ (us : List (List ℕ)) (rs : List ℕ). is_among (reached us (length rules) rs) r) are from
        ∙ (ap (λ z. is_among z r) (sym (reached_within (length rules) (uses_of rules) (omega (arith, length_uses rules)) (length rules) (rules_in calls)))
        ∙ same_among (length rules) (reached (uses_of rules) (length rules) (rules_in calls)) r less))
