-- Rules 10 and 9 of the trees of a file.
use Rattle.std.specs.Prelude.{ℕ, ◌+◌, Bool, if◌then◌else◌, List, [], ◌∷◌, slice_get, Option, Some, None, unwrap_or}
use Rattle.std.specs.Option.{option_or}
use Rattle.wrap_words.specs.declared.kind.Kind.{Kind}
use Rattle.wrap_words.specs.declared.kind.Kind.TheVariants.{I32}
use Rattle.expr_tree.specs.declared.tree.Cell.{Cell}
use Rattle.expr_tree.specs.declared.tree.Cell.TheVariants.{Array, Temp}
use Rattle.expr_tree.specs.Scenes.{is_among}
use Rattle.kernel_ir.specs.declared.fault.Refusal.{Refusal}
use Rattle.kernel_ir.specs.declared.kernel.Kernel.{Kernel}
use Rattle.kernel_ir.specs.declared.kernel.Temp as temp
use Rattle.kind_faults.specs.declared.faults.Mismatch.{Mismatch}
use Rattle.kernel_limits.specs.Asked.{first_of, first_in}
use Rattle.type_infer.specs.Typing.{kind_unknown, mismatch_at}
use Rattle.untyped.specs.declared.tree.Untyped.{Untyped}
use Rattle.untyped.specs.Asked.{Known, asked_of}
use Rattle.untyped_parts.specs.declared.trees.InsnTree.{InsnTree}
use Rattle.untyped_parts.specs.declared.trees.RuleTree.{RuleTree}
use Rattle.kernel_kinds.specs.Asked.{known_of}
use Rattle.kernel_kinds.specs.Calls.{used_rules}

abbrev pub unknown_at : ℕ → Option temp.Temp → Option Kind → Option Refusal
unknown_at line None kind = None
unknown_at line (Some t) kind = kind_unknown line t.name kind

-- an instruction that stores to a temporary that gets no kind
abbrev pub unknown_stored : Kernel → Known → ℕ → Cell → Option Refusal
unknown_stored K w line (Array n) = None
unknown_stored K w line (Temp n) = unknown_at line (slice_get K.temps n) (w.cell (Temp n))

abbrev pub test_fault : Known → Option Untyped → Kind → Option Mismatch
test_fault w None k = None
test_fault w (Some t) k = (asked_of w t).test k

-- value before data test, at the kind of the stored cell
abbrev pub insn_fault : Known → InsnTree → Option Kind → Option Mismatch
insn_fault w A None = None
insn_fault w A (Some k) = option_or ((asked_of w A.value).value.fault k) (test_fault w A.test k)

abbrev pub insn_refusal : Kernel → Known → InsnTree → Option Refusal
insn_refusal K w A = first_of (unknown_stored K w A.line A.cell) (mismatch_at A.line (insn_fault w A (w.cell A.cell)))

-- a body at the kind of its first read or cast, or else at int32
abbrev pub body_fault : Known → RuleTree → Option Mismatch
body_fault w r = let a = (asked_of w r.body).value in a.fault (unwrap_or a.first I32)

-- a rule at its line, unless it is used
abbrev pub rule_refusal : Known → Bool → RuleTree → Option Refusal
rule_refusal w used r = if used then None else mismatch_at r.line (body_fault w r)

-- the rules from this place on that are not used
abbrev pub rules_refusal : Known → (ℕ → Bool) → ℕ → List RuleTree → Option Refusal
rules_refusal w used at [] = None
rules_refusal w used at (r ∷ rs) = first_of (rule_refusal w (used at) r) (rules_refusal w used (at + 1) rs)

-- instructions in order, then the rules that are not used
abbrev pub refusal_by : Kernel → Known → (ℕ → Bool) → List RuleTree → List InsnTree → Option Refusal
refusal_by K w used rules insns = first_of (first_in (insn_refusal K w) insns) (rules_refusal w used 0 rules)

-- Of what kinds are refused, if of anything: of each instruction rule 10 before rule 9, then the rules that no instruction uses, also through other rules.
abbrev pub kinds_refusal : Kernel → List RuleTree → List InsnTree → Option Refusal
kinds_refusal K rules insns = refusal_by K (known_of K rules insns) (is_among (used_rules rules insns)) rules insns
