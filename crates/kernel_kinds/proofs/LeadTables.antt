-- The table of what rules lead with.
use Rattle.std.proofs.Common.{◌≡◌, ℕ, ◌+◌, ◌<◌, List, length, get_or, slice_get, Option, None, refl}
use Rattle.std.proofs.Math.Path.{fun_ext}
use Rattle.std.proofs.Math.ListN.{set}
use Rattle.kind_faults.specs.declared.leads.Leading.{Leading}
use Rattle.kind_faults.specs.Leads.{leading_at, kept_leading}
use Rattle.type_infer.specs.Orders.{IsCallOrder}
use Rattle.type_infer.proofs.Filling.{Settled}
use Rattle.untyped_parts.specs.declared.trees.RuleTree.{RuleTree}
use Rattle.kernel_kinds.specs.Leads.{body_leading, leading_to, rule_leading}
use Rattle.kernel_kinds.specs.Tables.{uses_among}
use Rattle.kernel_kinds.proofs.SameUses.{leading_by_used}
use Rattle.kernel_kinds.proofs.Tables.{table_more, table_all}

module _ (rules : List RuleTree) (order : List ℕ) (is : IsCallOrder (uses_among rules) order) (table : List (Option Leading)) (i : ℕ)
    (each : length table ≡ length rules)
    (settled : Settled (leading_to rules) order i (leading_at table)) where
  pub leads_more : (d r : ℕ) (l : Option Leading) → i < length order → get_or order i d ≡ r → l ≡ body_leading (leading_at table) (slice_get rules r)
      → Settled (leading_to rules) order (i + 1) (leading_at (set table r l))
  leads_more d r l h e made = table_more rules order is None body_leading (λ c. refl) (λ c d r. leading_by_used c d r.body) (leading_to rules) (λ r. refl)
      (λ n r. refl) kept_leading refl
      table i d r l each h e settled made

  pub leads_all : i ≡ length order → leading_at table ≡ rule_leading rules
  leads_all last = fun_ext (table_all rules order is None body_leading (λ c. refl) (λ c d r. leading_by_used c d r.body) (leading_to rules) (λ r. refl)
      (λ n r. refl) kept_leading refl
      table i each last settled)
