-- The table of what rules lead with.
use Rattle.std.proofs.Common.{◌≡◌, ℕ, zero, suc, ◌+◌, ◌<◌, ◌≤◌, true, List, [], ◌∷◌, map, length, get_or, slice_get, Option, None, refl, sym, ap, subst, ◌∙◌, ⊎_elim, arith}
use Rattle.std.proofs.Math.ListN.{set}
use Rattle.std.proofs.lemmas.Bool.{cases_lt}
use Rattle.std.proofs.lemmas.Option.{slice_get_past}
use Rattle.expr_tree.specs.declared.tree.Expr.{Expr}
use Rattle.expr_tree.specs.declared.tree.Node.TheOpen.{Node-F}
use Rattle.expr_tree.specs.Scenes.{is_among}
use Rattle.kernel_ir.specs.declared.kernel.SubstRule.{SubstRule}
use Rattle.kind_faults.specs.declared.leads.Leading.{Leading}
use Rattle.type_infer.specs.Leads.{node_leads, test_leads, expr_leads, leading_of, rule_leading, leading_to}
use Rattle.type_infer.specs.Orders.{used_by, IsCallOrder}
use Rattle.kind_faults.specs.Leads.{leading_at, kept_leading}
use Rattle.type_infer.specs.Tables.{rules_in}
use Rattle.type_infer.proofs.Walks.{get_set_same, get_set_other, among_get}
use Rattle.type_infer.proofs.SameCalls.{Own, same_fold}
use Rattle.type_infer.proofs.Filling.{Settled, settled_more, settled_all}

own_leads : (c d : ℕ → Option Leading) (n : Node-F (Option Leading) (Unit {0}) (Option Leading)) → Own (λ u. c u ≡ d u) n → node_leads c n ≡ node_leads d n
own_leads c d (Node-F.Call rule arguments) h = h
own_leads c d _ h = refl

-- what an expression leads with depends on the rules that it uses alone
pub leading_by_used : (c d : ℕ → Option Leading) (e : Expr) → ((u : ℕ) → is_among (rules_in e) u ≡ true → c u ≡ d u) → leading_of c e ≡ leading_of d e
leading_by_used c d e h = same_fold (λ u. c u ≡ d u) (node_leads c) (node_leads d) test_leads expr_leads (own_leads c d) e h

-- the rules that each rule uses
abbrev pub uses_in : List SubstRule → List (List ℕ)
uses_in rules = map (λ r. rules_in r.body) rules

rule_by_used : (rules : List SubstRule) (c d : ℕ → Option Leading) (r : ℕ) → ((u : ℕ) → is_among (used_by (uses_in rules) r) u ≡ true → c u ≡ d u) → rule_leading c (slice_get rules r) ≡ rule_leading d (slice_get rules r)
rule_by_used [] c d r h = refl
rule_by_used (s ∷ rules) c d zero h = leading_by_used c d s.body h
rule_by_used (s ∷ rules) c d (suc r) h = rule_by_used rules c d r h

pub length_uses : (rules : List SubstRule) → length (uses_in rules) ≡ length rules
length_uses [] = refl
length_uses (s ∷ rules) = ap suc (length_uses rules)

past_none : (rules : List SubstRule) (n r : ℕ) → length rules ≤ r → leading_to rules n r ≡ None
past_none rules zero r h = refl
past_none rules (suc n) r h = ap (rule_leading (leading_to rules n)) (slice_get_past rules r h)

module _ (rules : List SubstRule) (order : List ℕ) (is : IsCallOrder (uses_in rules) order) where
  -- the next rule of the order is one of them
  pub in_range : (i d r : ℕ) → i < length order → get_or order i d ≡ r → r < length rules
  in_range i d r h e = omega (arith, is.within r (subst (λ z. is_among order z ≡ true) e (among_get order i d h)), length_uses rules)

  pub leads_more : (table : List (Option Leading)) (i d r : ℕ) (l : Option Leading) → length table ≡ length rules → i < length order → get_or order i d ≡ r
      → Settled (leading_to rules) order i (leading_at table) → l ≡ rule_leading (leading_at table) (slice_get rules r) → Settled (leading_to rules) order (i + 1) (leading_at (set table r l))
  leads_more table i d r l len h e s made =
      settled_more (uses_in rules) order is (leading_to rules) (λ c r. rule_leading c (slice_get rules r)) (λ n r. refl) (rule_by_used rules)
      (leading_at table) (leading_at (set table r l)) i d r h e s
      (ap kept_leading (get_set_same table r l (omega (arith, in_range i d r h e, len))) ∙ made) (λ q other. ap kept_leading (get_set_other table r q l other))

  pub leads_all : (table : List (Option Leading)) (i : ℕ) → length table ≡ length rules → i ≡ length order → Settled (leading_to rules) order i (leading_at table)
      → (r : ℕ) → leading_at table r ≡ leading_to rules (length rules) r
  leads_all table i len last s r = ⊎_elim
      (λ lt. sym (subst (λ n. leading_to rules n r ≡ leading_at table r) (length_uses rules)
      (settled_all (uses_in rules) order is (leading_to rules) (λ c r. rule_leading c (slice_get rules r)) (λ n r. refl) (rule_by_used rules) (leading_at table) i last s r
      (omega (arith, lt, length_uses rules)))))
      (λ past. ap kept_leading (slice_get_past table r (omega (arith, past, len))) ∙ sym (past_none rules (length rules) r past)) (cases_lt r (length rules))
