-- A table of what is made of rules, filled in an order in which each stands behind those that it uses.
use Rattle.std.proofs.Common.{◌≡◌, ℕ, zero, suc, ◌+◌, ◌<◌, ◌≤◌, true, cond, nat_lt, List, [], ◌∷◌, map, length, get_or, slice_get, Option, Some, None, refl, sym, ap, subst, ◌∙◌, ⊎_elim, arith}
use Rattle.std.proofs.Math.Path.{fun_ext}
use Rattle.std.proofs.Math.ListN.{set}
use Rattle.std.proofs.lemmas.Bool.{cases_lt, lt-ltb, le-ltb}
use Rattle.std.proofs.lemmas.Option.{slice_get_past}
use Rattle.expr_tree.specs.Scenes.{is_among}
use Rattle.type_infer.specs.Orders.{used_by, IsCallOrder}
use Rattle.type_infer.proofs.Filling.{Settled, settled_more, settled_all}
use Rattle.type_infer.proofs.Walks.{get_set_same, get_set_other, among_get}
use Rattle.untyped_parts.specs.declared.trees.RuleTree.{RuleTree}
use Rattle.kernel_kinds.specs.Calls.{calls, rules_in, uses_of}
use Rattle.kernel_kinds.specs.Tables.{uses_among, within}
use Rattle.kernel_kinds.proofs.Within.{same_among}

length_uses : (count : ℕ) (rules : List RuleTree) → length (map (within count) (uses_of rules)) ≡ length rules
length_uses count [] = refl
length_uses count (r ∷ rules) = ap suc (length_uses count rules)

-- the next rule of the order is one of them
pub in_range : (rules : List RuleTree) (order : List ℕ) → IsCallOrder (uses_among rules) order → (i d r : ℕ) → i < length order → get_or order i d ≡ r
    → r < length rules
in_range rules order is i d r h e = omega
    (arith, is.within r (subst (λ z. is_among order z ≡ true) e (among_get order i d h)), length_uses (length rules) rules)

module _ {A : Type 0} (count : ℕ) (none : A) where
  -- what is kept of rules that are there
  abbrev beyond : (ℕ → A) → ℕ → A
  beyond c u = cond (nat_lt u count) (c u) none

  beyond_is : (c : ℕ → A) → ((u : ℕ) → count ≤ u → c u ≡ none) → (u : ℕ) → beyond c u ≡ c u
  beyond_is c past u = ⊎_elim (λ less. ap (λ b. cond b (c u) none) (lt-ltb u count less))
      (λ more. ap (λ b. cond b (c u) none) (le-ltb u count more) ∙ sym (past u more)) (cases_lt u count)

  beyond_same : (c d : ℕ → A) (us : List ℕ) → ((u : ℕ) → is_among (within count us) u ≡ true → c u ≡ d u) → (u : ℕ) → is_among us u ≡ true
      → beyond c u ≡ beyond d u
  beyond_same c d us same u among = ⊎_elim
      (λ less. ap (λ z. cond (nat_lt u count) z none) (same u (same_among count us u less ∙ among)))
      (λ more. ap (λ b. cond b (c u) none) (le-ltb u count more) ∙ sym (ap (λ b. cond b (d u) none) (le-ltb u count more))) (cases_lt u count)

module _ {A T : Type 0} (rules : List RuleTree) (order : List ℕ) (is : IsCallOrder (uses_among rules) order)
    (none : A) (of_rule : (ℕ → A) → Option RuleTree → A) (of_none : (c : ℕ → A) → of_rule c None ≡ none)
    (by_calls : (c d : ℕ → A) (r : RuleTree) → ((u : ℕ) → is_among (rules_in (calls r.body)) u ≡ true → c u ≡ d u) → of_rule c (Some r) ≡ of_rule d (Some r))
    (to : ℕ → ℕ → A) (first : (r : ℕ) → to zero r ≡ none) (deeper : (n r : ℕ) → to (suc n) r ≡ of_rule (to n) (slice_get rules r))
    (kept : Option T → A) (kept_none : kept None ≡ none) where
  abbrev at : List T → ℕ → A
  at table r = kept (slice_get table r)

  -- the rule by what is kept of those that there are
  one : (ℕ → A) → ℕ → A
  one c r = of_rule (beyond (length rules) none c) (slice_get rules r)

  by_used_in : (rs : List RuleTree) (c d : ℕ → A) (r : ℕ) → ((u : ℕ) → is_among (used_by (map (within (length rules)) (uses_of rs)) r) u ≡ true → c u ≡ d u)
      → of_rule (beyond (length rules) none c) (slice_get rs r) ≡ of_rule (beyond (length rules) none d) (slice_get rs r)
  by_used_in [] c d r h = of_none (beyond (length rules) none c) ∙ sym (of_none (beyond (length rules) none d))
  by_used_in (s ∷ rs) c d zero h = by_calls (beyond (length rules) none c) (beyond (length rules) none d) s
      (beyond_same (length rules) none c d (rules_in (calls s.body)) h)
  by_used_in (s ∷ rs) c d (suc r) h = by_used_in rs c d r h

  past_none : (n r : ℕ) → length rules ≤ r → to n r ≡ none
  past_none zero r h = first r
  past_none (suc n) r h = deeper n r ∙ (ap (of_rule (to n)) (slice_get_past rules r h) ∙ of_none (to n))

  past_kept : (table : List T) → length table ≡ length rules → (u : ℕ) → length rules ≤ u → at table u ≡ none
  past_kept table len u h = ap kept (slice_get_past table u (omega (arith, h, len))) ∙ kept_none

  by_used : (c d : ℕ → A) (r : ℕ) → ((u : ℕ) → is_among (used_by (uses_among rules) r) u ≡ true → c u ≡ d u) → one c r ≡ one d r
  unfolding one
  by_used = by_used_in rules

  deeper_by : (n r : ℕ) → to (suc n) r ≡ one (to n) r
  unfolding one
  deeper_by n r = deeper n r ∙ ap (λ c. of_rule c (slice_get rules r)) (sym (fun_ext (beyond_is (length rules) none (to n) (past_none n))))

  made_by : (table : List T) → length table ≡ length rules → (r : ℕ) → of_rule (at table) (slice_get rules r) ≡ one (at table) r
  unfolding one
  made_by table len r = ap (λ c. of_rule c (slice_get rules r)) (sym (fun_ext (beyond_is (length rules) none (at table) (past_kept table len))))

  pub table_more : (table : List T) (i d r : ℕ) (row : T) → length table ≡ length rules → i < length order → get_or order i d ≡ r
      → Settled to order i (at table) → kept (Some row) ≡ of_rule (at table) (slice_get rules r) → Settled to order (i + 1) (at (set table r row))
  table_more table i d r row len h e s made =
      settled_more (uses_among rules) order is to one deeper_by by_used (at table) (at (set table r row)) i d r h e s
      (ap kept (get_set_same table r row (omega (arith, in_range rules order is i d r h e, len))) ∙ (made ∙ made_by table len r))
      (λ q other. ap kept (get_set_other table r q row other))

  pub table_all : (table : List T) (i : ℕ) → length table ≡ length rules → i ≡ length order → Settled to order i (at table) → (r : ℕ)
      → at table r ≡ to (length rules) r
  table_all table i len last s r = ⊎_elim
      (λ lt. sym (subst (λ n. to n r ≡ at table r) (length_uses (length rules) rules)
      (settled_all (uses_among rules) order is to one deeper_by by_used (at table) i last s r (omega (arith, lt, length_uses (length rules) rules)))))
      (λ past. past_kept table len r past ∙ sym (past_none (length rules) r past)) (cases_lt r (length rules))
