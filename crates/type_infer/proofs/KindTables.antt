-- The table of what rules are.
use Rattle.std.proofs.Common.{◌≡◌, ℕ, zero, suc, ◌+◌, ◌<◌, ◌≤◌, true, List, [], ◌∷◌, length, get_or, slice_get, Option, Some, refl, sym, ap, subst, ◌∙◌, ⊎_elim, arith}
use Rattle.std.proofs.Math.Path.{fun_ext}
use Rattle.std.proofs.Math.ListN.{set}
use Rattle.std.proofs.lemmas.Bool.{cases_lt}
use Rattle.std.proofs.lemmas.Option.{slice_get_past}
use Rattle.wrap_words.specs.declared.kind.Kind.{Kind}
use Rattle.expr_tree.specs.declared.tree.Expr.{Expr}
use Rattle.expr_tree.specs.declared.tree.Node.TheOpen.{Node-F}
use Rattle.expr_tree.specs.Scenes.{is_among}
use Rattle.kernel_ir.specs.declared.kernel.Kernel.{Kernel}
use Rattle.kernel_ir.specs.declared.kernel.SubstRule.{SubstRule}
use Rattle.kind_faults.specs.declared.faults.Mismatch.{Mismatch}
use Rattle.type_infer.specs.declared.found.RuleKinds.{RuleKinds}
use Rattle.kind_faults.specs.Faults.{Judged}
use Rattle.type_infer.specs.Judged.{node_judged, test_judged, expr_judged, judged_of, rule_judged, no_judgement, known_with, known_in, judged_to}
use Rattle.type_infer.specs.Orders.{used_by, IsCallOrder}
use Rattle.type_infer.specs.Tables.{judged_at, kept_judgement, known_by, rules_in}
use Rattle.type_infer.proofs.Walks.{get_set_same, get_set_other}
use Rattle.type_infer.proofs.SameCalls.{Own, same_fold}
use Rattle.type_infer.proofs.Filling.{Settled, settled_more, settled_all}
use Rattle.type_infer.proofs.LeadTables.{uses_in, length_uses, in_range}

module _ (K : Kernel) where
  own_judged : (c d : ℕ → Judged) (n : Node-F Judged (Kind → Option Mismatch) Judged) → Own (λ u. c u ≡ d u) n → node_judged (known_with K c) n ≡ node_judged (known_with K d) n
  own_judged c d (Node-F.Call rule arguments) h = h
  own_judged c d _ h = refl

  -- what an expression is depends on the rules that it uses alone
  pub judged_by_used : (c d : ℕ → Judged) (e : Expr) → ((u : ℕ) → is_among (rules_in e) u ≡ true → c u ≡ d u) → judged_of (known_with K c) e ≡ judged_of (known_with K d) e
  judged_by_used c d e h = same_fold (λ u. c u ≡ d u) (node_judged (known_with K c)) (node_judged (known_with K d)) test_judged expr_judged (own_judged c d) e h

  one_by_used : (rules : List SubstRule) (c d : ℕ → Judged) (r : ℕ) → ((u : ℕ) → is_among (used_by (uses_in rules) r) u ≡ true → c u ≡ d u)
      → rule_judged (known_with K c) (slice_get rules r) ≡ rule_judged (known_with K d) (slice_get rules r)
  one_by_used [] c d r h = refl
  one_by_used (s ∷ rules) c d zero h = judged_by_used c d s.body h
  one_by_used (s ∷ rules) c d (suc r) h = one_by_used rules c d r h

  past_none : (n r : ℕ) → length K.rules ≤ r → judged_to K n r ≡ no_judgement
  past_none zero r h = refl
  past_none (suc n) r h = ap (rule_judged (known_with K (judged_to K n))) (slice_get_past K.rules r h)

  module _ (order : List ℕ) (is : IsCallOrder (uses_in K.rules) order) where
    pub kinds_more : (table : List RuleKinds) (i d r : ℕ) (row : RuleKinds) → length table ≡ length K.rules → i < length order → get_or order i d ≡ r
        → Settled (judged_to K) order i (judged_at table) → kept_judgement (Some row) ≡ rule_judged (known_by K table) (slice_get K.rules r) → Settled (judged_to K) order (i + 1) (judged_at (set table r row))
    kinds_more table i d r row len h e s made =
        settled_more (uses_in K.rules) order is (judged_to K) (λ c r. rule_judged (known_with K c) (slice_get K.rules r)) (λ n r. refl) (one_by_used K.rules)
        (judged_at table) (judged_at (set table r row)) i d r h e s
        (ap kept_judgement (get_set_same table r row (omega (arith, in_range K.rules order is i d r h e, len))) ∙ made) (λ q other. ap kept_judgement (get_set_other table r q row other))

    kinds_each : (table : List RuleKinds) (i : ℕ) → length table ≡ length K.rules → i ≡ length order → Settled (judged_to K) order i (judged_at table)
        → (r : ℕ) → judged_at table r ≡ judged_to K (length K.rules) r
    kinds_each table i len last s r = ⊎_elim
        (λ lt. sym (subst (λ n. judged_to K n r ≡ judged_at table r) (length_uses K.rules)
        (settled_all (uses_in K.rules) order is (judged_to K) (λ c r. rule_judged (known_with K c) (slice_get K.rules r)) (λ n r. refl) (one_by_used K.rules) (judged_at table) i last s r
        (omega (arith, lt, length_uses K.rules)))))
        (λ past. ap kept_judgement (slice_get_past table r (omega (arith, past, len))) ∙ sym (past_none (length K.rules) r past)) (cases_lt r (length K.rules))

    pub kinds_all : (table : List RuleKinds) (i : ℕ) → length table ≡ length K.rules → i ≡ length order → Settled (judged_to K) order i (judged_at table) → known_by K table ≡ known_in K
    kinds_all table i len last s = ap (known_with K) (fun_ext (kinds_each table i len last s))
