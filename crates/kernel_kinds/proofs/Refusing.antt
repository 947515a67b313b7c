-- One refusal after the other.
use Rattle.std.proofs.Common.{◌≡◌, ℕ, ◌+◌, ◌<◌, Bool, List, [], ◌∷◌, length, Option, Some, None, refl, sym, ap, ap₂, subst, ◌∙◌, arith}
use Rattle.std.specs.Prelude.{Result, Ok, Err, OnOk}
use Rattle.kernel_ir.specs.Refusals.{IsFault}
use Rattle.kernel_ir.specs.declared.fault.Fault.{Fault}
use Rattle.kernel_ir.specs.declared.fault.Fault.TheVariants.{OutOfMemory, Rule}
use Rattle.kernel_ir.specs.declared.fault.Refusal.{Refusal}
use Rattle.kernel_ir.specs.declared.kernel.Kernel.{Kernel}
use Rattle.kernel_limits.specs.Asked.{first_of, first_in}
use Rattle.subst_rules.specs.Refused.{RefusesAs, after}
use Rattle.type_infer.specs.Orders.{HasNoCycle}
use Rattle.untyped.specs.Asked.{Known}
use Rattle.untyped_parts.specs.declared.trees.InsnTree.{InsnTree}
use Rattle.untyped_parts.specs.declared.trees.RuleTree.{RuleTree}
use Rattle.kernel_kinds.specs.Refused.{IsCycleRefusal}
use Rattle.kernel_kinds.specs.Kinds.{insn_refusal, refusal_by, rule_refusal, rules_refusal}

module _ (first : Option Refusal) (later : Option Refusal → Type 0) where
  -- the first refusal comes
  pub refused_first : (T : Type 0) (fault : Fault) → IsFault first fault → RefusesAs {T = T} (after first later) (Err fault)
  refused_first T OutOfMemory at = tt
  refused_first T (Rule r) at = subst (λ o. after o later (Some r)) (sym at) refl

  -- there is none, so the later one counts
  pub refused_later : {T : Type 0} (answer : Result T Fault) → first ≡ None → RefusesAs later answer → RefusesAs (after first later) answer
  refused_later (Ok answer) none h = subst (λ o. after o later None) (sym none) h
  refused_later (Err OutOfMemory) none h = tt
  refused_later (Err (Rule r)) none h = subst (λ o. after o later (Some r)) (sym none) h

-- what is accepted has no cycle
pub accepted : {T : Type 0} (K : Kernel) (uses : List (List ℕ)) (answer : Result T Fault) → RefusesAs (IsCycleRefusal K uses) answer
    → OnOk answer (HasNoCycle uses)
accepted K uses (Ok answer) h = h
accepted K uses (Err fault) h = tt

-- which rules are used is asked only of those that there are
pub same_rules : (w : Known) (used other : ℕ → Bool) (at : ℕ) (rs : List RuleTree) → ((r : ℕ) → r < at + length rs → used r ≡ other r)
    → rules_refusal w used at rs ≡ rules_refusal w other at rs
same_rules w used other at [] same = refl
same_rules w used other at (r ∷ rs) same =
    ap₂ first_of (ap (λ b. rule_refusal w b r) (same at (omega arith))) (same_rules w used other (at + 1) rs (λ q h. same q (omega (arith, h))))

pub same_refusal : (K : Kernel) (w v : Known) (used other : ℕ → Bool) (rules : List RuleTree) (insns : List InsnTree) → w ≡ v
    → ((r : ℕ) → r < length rules → used r ≡ other r)
    → refusal_by K w used rules insns ≡ refusal_by K v other rules insns
same_refusal K w v used other rules insns is same =
    ap (λ z. refusal_by K z used rules insns) is
    ∙ ap (first_of (first_in (insn_refusal K v) insns)) (same_rules v used other 0 rules (λ r h. same r (omega (arith, h))))
