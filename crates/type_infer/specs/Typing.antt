-- Which kernels are refused for their kinds, and how.
use Rattle.std.specs.Prelude.{ℕ, ◌+◌, is_some, if◌then◌else◌, List, [], ◌∷◌, slice_get, Option, Some, None, unwrap_or, codes}
use Rattle.std.specs.Option.{option_or}
use Rattle.wrap_words.specs.declared.kind.Kind.{Kind}
use Rattle.wrap_words.specs.declared.kind.Kind.TheVariants.{I32}
use Rattle.expr_tree.specs.declared.tree.Cell.{Cell}
use Rattle.expr_tree.specs.declared.tree.Cell.TheVariants.{Array, Temp}
use Rattle.expr_tree.specs.declared.tree.Test.{Test}
use Rattle.expr_tree.specs.Scenes.{is_among}
use Rattle.kernel_ir.specs.declared.kernel.Kernel.{Kernel}
use Rattle.kernel_ir.specs.declared.kernel.Insn.{Insn}
use Rattle.kernel_ir.specs.declared.kernel.SubstRule.{SubstRule}
use Rattle.kernel_ir.specs.declared.kernel.Temp as temp
use Rattle.kernel_ir.specs.declared.fault.Site.TheVariants as site
use Rattle.kernel_ir.specs.declared.fault.Refusal.{Refusal}
use Rattle.kernel_ir.specs.Kinds.{cell_kind}
use Rattle.kernel_ir.specs.Limits.{IsWithinLimits}
use Rattle.kernel_ir.specs.Refusals.{refusal}
use Rattle.kernel_ir.specs.Valid.{IsFormed, HasArities, HasNoRuleCycle, used_rules}
use Rattle.kind_faults.specs.declared.faults.Mismatch.{Mismatch}
use Rattle.kind_faults.specs.Words.{kind_word}
use Rattle.type_infer.specs.Judged.{Known, judged_of, known_in, mismatch_of, mismatch_of_test}
use Rattle.type_infer.specs.Inferred.{inferred}

-- A kernel of which kinds are asked: valid aside from rules 9 and 10.
pub record IsTypable (K : Kernel) : Type 0 where
  pub formed : IsFormed K
  pub arities : HasArities K
  pub acyclic : HasNoRuleCycle K
  pub within : IsWithinLimits K

-- ---- refusals

abbrev pub found_word : Option Kind → List ℕ
found_word None = codes "form"
found_word (Some k) = kind_word k

-- rule 9 at a line
abbrev pub type_mismatch : ℕ → Mismatch → Refusal
type_mismatch line m = record (refusal site.Kernel 9 (kind_word m.wanted ∷ found_word m.found ∷ []) []) { line = line }

abbrev pub mismatch_at : ℕ → Option Mismatch → Option Refusal
mismatch_at line None = None
mismatch_at line (Some m) = Some (type_mismatch line m)

-- rule 10 at a line, for a temporary of this name, unless it has a kind
abbrev pub kind_unknown : ℕ → List ℕ → Option Kind → Option Refusal
kind_unknown line name kind = if is_some kind then None else Some (record (refusal site.Kernel 10 (name ∷ []) []) { line = line })

abbrev pub type_unknown : ℕ → temp.Temp → Option Refusal
type_unknown line t = kind_unknown line t.name t.kind

-- ---- where they come, in a kernel with the kinds that were inferred

abbrev pub unknown_at : ℕ → Option temp.Temp → Option Refusal
unknown_at line None = None
unknown_at line (Some t) = type_unknown line t

-- an instruction that stores to a temporary without a kind: the first one that stores to it is refused before the others
abbrev pub unknown_stored : Kernel → ℕ → Cell → Option Refusal
unknown_stored K line (Array n) = None
unknown_stored K line (Temp n) = unknown_at line (slice_get K.temps n)

abbrev pub test_mismatch : Known → Option Test → Kind → Option Mismatch
test_mismatch w None k = None
test_mismatch w (Some t) k = mismatch_of_test w t k

-- value before predicate, at the kind of the stored cell
abbrev pub insn_mismatch : Known → Insn → Option Kind → Option Mismatch
insn_mismatch w A None = None
insn_mismatch w A (Some k) = option_or (mismatch_of w A.value k) (test_mismatch w A.test k)

abbrev pub insn_refusal : Kernel → Known → Insn → Option Refusal
insn_refusal K w A = option_or (unknown_stored K A.line A.cell) (mismatch_at A.line (insn_mismatch w A (cell_kind K A.cell)))

abbrev pub insns_refusal : Kernel → Known → List Insn → Option Refusal
insns_refusal K w [] = None
insns_refusal K w (A ∷ As) = option_or (insn_refusal K w A) (insns_refusal K w As)

-- temporaries without a kind to which no instruction stores
abbrev pub temps_refusal : List temp.Temp → Option Refusal
temps_refusal [] = None
temps_refusal (t ∷ ts) = option_or (type_unknown 0 t) (temps_refusal ts)

-- a rule's body at the kind of its first read or cast, or else at int32
abbrev pub body_mismatch : Known → SubstRule → Option Mismatch
body_mismatch w r = mismatch_of w r.body (unwrap_or (judged_of w r.body).first I32)

-- the rules from this place on that no instruction uses, also through other rules
abbrev pub rules_refusal : Kernel → Known → ℕ → List SubstRule → Option Refusal
rules_refusal K w at [] = None
rules_refusal K w at (r ∷ rs) =
    option_or (if is_among (used_rules K) at then None else mismatch_at 0 (body_mismatch w r)) (rules_refusal K w (at + 1) rs)

-- Instructions in order, then temporaries, then rules.
abbrev pub kinds_refusal : Kernel → Known → Option Refusal
kinds_refusal K w = option_or (insns_refusal K w K.insns) (option_or (temps_refusal K.temps) (rules_refusal K w 0 K.rules))

-- how the inference of kinds is refused, if it is
abbrev pub typing_refusal : Kernel → Option Refusal
typing_refusal K = kinds_refusal (inferred K) (known_in (inferred K))
