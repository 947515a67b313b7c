-- The table of what uses of rules are.
use Rattle.std.proofs.Common.{◌≡◌, ℕ, ◌+◌, ◌<◌, true, List, length, get_or, slice_get, Option, Some, refl, ap, ap₂}
use Rattle.std.proofs.Math.Path.{fun_ext}
use Rattle.std.proofs.Math.ListN.{set}
use Rattle.expr_tree.specs.Scenes.{is_among}
use Rattle.wrap_words.specs.declared.kind.Kind.{Kind}
use Rattle.wrap_words.specs.declared.kind.Kind.TheVariants.{I32, I64, U32, U64}
use Rattle.kind_faults.specs.declared.faults.Mismatch.{Mismatch}
use Rattle.kind_faults.specs.Faults.{Judged}
use Rattle.type_infer.specs.Orders.{IsCallOrder}
use Rattle.type_infer.specs.Tables.{fault_at}
use Rattle.type_infer.specs.declared.found.KindFaults.{KindFaults}
use Rattle.type_infer.proofs.Filling.{Settled}
use Rattle.untyped.specs.Asked.{Asked}
use Rattle.untyped_parts.specs.declared.trees.RuleTree.{RuleTree}
use Rattle.kernel_kinds.specs.Asked.{as_use, asked_to, known_over, known_with, nothing_asked, rule_asked}
use Rattle.kernel_kinds.specs.Calls.{calls, rules_in}
use Rattle.kernel_kinds.specs.Tables.{asked_at, cells_in, kept_asked, known_by, uses_among}
use Rattle.kernel_kinds.specs.declared.found.Cells.{Cells}
use Rattle.kernel_kinds.specs.declared.found.Kept.{Kept}
use Rattle.kernel_kinds.proofs.SameUses.{asked_by_used}
use Rattle.kernel_kinds.proofs.Tables.{table_more, table_all}

at_kind : (r : KindFaults) (f : Kind → Option Mismatch) → r.i32 ≡ f I32 → r.i64 ≡ f I64 → r.u32 ≡ f U32 → r.u64 ≡ f U64 → (k : Kind) → fault_at r k ≡ f k
at_kind r f a b c d I32 = a
at_kind r f a b c d I64 = b
at_kind r f a b c d U32 = c
at_kind r f a b c d U64 = d

-- the faults at the four kinds are those at all
pub at_kinds : (r : KindFaults) (f : Kind → Option Mismatch) → r.i32 ≡ f I32 → r.i64 ≡ f I64 → r.u32 ≡ f U32 → r.u64 ≡ f U64 → fault_at r ≡ f
at_kinds r f a b c d = fun_ext (at_kind r f a b c d)

abbrev judged_as : Option Kind → (Kind → Option Mismatch) → Judged
judged_as first fault = record { first = first; fault = fault }

abbrev asked_as : Judged → (Kind → Option Mismatch) → Asked
asked_as value test = record { value = value; test = test }

-- what is kept of a rule is what its uses are
pub kept_is : (k : Kept) (a : Asked) → k.first ≡ a.value.first → fault_at k.values ≡ a.value.fault → fault_at k.tests ≡ a.test → kept_asked (Some k) ≡ a
kept_is k a first values tests =
    ap₂ (λ v t. asked_as v t) (ap₂ (λ f g. judged_as f g) first values) tests

module _ (c : Cells) (rules : List RuleTree) (order : List ℕ) (is : IsCallOrder (uses_among rules) order) (table : List Kept) (i : ℕ)
    (each : length table ≡ length rules)
    (settled : Settled (asked_to (cells_in c) rules) order i (asked_at table)) where
  abbrev of_rule : (ℕ → Asked) → Option RuleTree → Asked
  of_rule call = rule_asked (known_with (cells_in c) call)

  by_calls : (f g : ℕ → Asked) (r : RuleTree) → ((u : ℕ) → is_among (rules_in (calls r.body)) u ≡ true → f u ≡ g u) → of_rule f (Some r) ≡ of_rule g (Some r)
  by_calls f g r same = ap as_use (asked_by_used (cells_in c) f g r.body same)

  pub kept_more : (d r : ℕ) (row : Kept) → i < length order → get_or order i d ≡ r → kept_asked (Some row) ≡ rule_asked (known_by c table) (slice_get rules r)
      → Settled (asked_to (cells_in c) rules) order (i + 1) (asked_at (set table r row))
  kept_more d r row h e made = table_more rules order is nothing_asked of_rule (λ f. refl) by_calls (asked_to (cells_in c) rules) (λ r. refl)
      (λ n r. refl) kept_asked refl
      table i d r row each h e settled made

  pub kept_all : i ≡ length order → known_by c table ≡ known_over (cells_in c) rules
  kept_all last = ap (known_with (cells_in c))
      (fun_ext (table_all rules order is nothing_asked of_rule (λ f. refl) by_calls (asked_to (cells_in c) rules) (λ r. refl) (λ n r. refl) kept_asked refl
      table i each last settled))
