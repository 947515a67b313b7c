-- Rules 8 and 7 of the trees of a file.
use Rattle.std.specs.Prelude.{◌≡◌, ℕ, ◌<◌, List, ◌∷◌, [], ◌++◌, false, Option, Some, None}
use Rattle.kernel_ir.specs.declared.fault.Refusal.{Refusal}
use Rattle.kernel_ir.specs.declared.kernel.Kernel.{Kernel}
use Rattle.kernel_limits.specs.Asked.{first_of, first_in}
use Rattle.subst_rules.specs.Refused.{after, rule_cycle, use_refusal}
use Rattle.type_infer.specs.Orders.{HasNoCycle, Reaches, uses_along}
use Rattle.untyped_parts.specs.declared.trees.InsnTree.{InsnTree}
use Rattle.untyped_parts.specs.declared.trees.RuleTree.{RuleTree}
use Rattle.kernel_kinds.specs.Calls.{calls_in_insn, calls_of, uses_of}

-- ---- rule 8: uses with another count of arguments than the rule has parameters

-- an instruction, at its line
abbrev pub insn_refusal : Kernel → InsnTree → Option Refusal
insn_refusal K A = first_in (use_refusal K.rules A.line) (calls_in_insn A)

-- the uses in bodies, in order and without a line, before the instructions
abbrev pub arity_refusal : Kernel → List (List (ℕ × ℕ)) → List InsnTree → Option Refusal
arity_refusal K bodies insns = first_of (first_in (first_in (use_refusal K.rules 0)) bodies) (first_in (insn_refusal K) insns)

-- ---- rule 7: rules that reach themselves

-- the rule reaches itself, and none that is declared before it does
pub record IsFirstCycle (uses : List (List ℕ)) (rule : ℕ) : Type 0 where
  pub reaches : Reaches uses rule rule
  pub first : (earlier : ℕ) (way : List ℕ) → earlier < rule → uses_along uses earlier (way ++ earlier ∷ []) ≡ false

-- the first rule in declared order that reaches itself is refused
abbrev pub IsCycleRefusal : Kernel → List (List ℕ) → Option Refusal → Type 0
IsCycleRefusal K uses None = HasNoCycle uses
IsCycleRefusal K uses (Some r) = (rule : ℕ) × IsFirstCycle uses rule × (r ≡ rule_cycle K rule)

-- ---- both

-- Of what uses of rules are refused, if of anything: rule 8, then rule 7.
abbrev pub IsCallsRefusal : Kernel → List RuleTree → List InsnTree → Option Refusal → Type 0
IsCallsRefusal K rules insns = after (arity_refusal K (calls_of rules) insns) (IsCycleRefusal K (uses_of rules))
