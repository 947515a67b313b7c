-- What is kept of rules, by their numbers.
use Rattle.std.specs.Prelude.{ℕ, List, [], ◌∷◌, ◌++◌, map, slice_get, Option, Some, None}
use Rattle.wrap_words.specs.declared.kind.Kind.{Kind}
use Rattle.wrap_words.specs.declared.kind.Kind.TheVariants.{I32, I64, U32, U64}
use Rattle.expr_tree.specs.declared.tree.Expr.{Expr}
use Rattle.kernel_ir.specs.declared.kernel.Kernel.{Kernel}
use Rattle.kernel_ir.specs.declared.kernel.Insn.{Insn}
use Rattle.kernel_ir.specs.Mentions.{listed, listed_in, calls}
use Rattle.kind_faults.specs.declared.faults.Mismatch.{Mismatch}
use Rattle.type_infer.specs.declared.found.KindFaults.{KindFaults}
use Rattle.type_infer.specs.declared.found.RuleKinds.{RuleKinds}
use Rattle.type_infer.specs.declared.temps.Turn.{Turn}
use Rattle.type_infer.specs.declared.temps.Turn.TheVariants.{Ends, Leads}
use Rattle.kind_faults.specs.Faults.{Judged}
use Rattle.type_infer.specs.Judged.{Known, known_with, no_judgement}

-- the rules that an expression uses, in the order of the text
abbrev pub rules_in : Expr → List ℕ
rules_in e = map (λ c. c.0) (listed calls e)

-- the rules that instructions use themselves
abbrev pub calls_in_insns : List Insn → List ℕ
calls_in_insns [] = []
calls_in_insns (A ∷ As) = (map (λ c. c.0) (listed_in calls A.test) ++ map (λ c. c.0) (listed calls A.value)) ++ calls_in_insns As

abbrev pub fault_at : KindFaults → Kind → Option Mismatch
fault_at f I32 = f.i32
fault_at f I64 = f.i64
fault_at f U32 = f.u32
fault_at f U64 = f.u64

abbrev pub kept_judgement : Option RuleKinds → Judged
kept_judgement None = no_judgement
kept_judgement (Some r) = record { first = r.first; fault = fault_at r.faults }

abbrev pub judged_at : List RuleKinds → ℕ → Judged
judged_at table rule = kept_judgement (slice_get table rule)

-- the kinds of a kernel's cells, and what is kept of its rules
abbrev pub known_by : Kernel → List RuleKinds → Known
known_by K table = known_with K (judged_at table)

-- What a step on the way to a temporary's kind comes to: an end, or another temporary.
abbrev pub kind_after : (ℕ → Option Kind) → Turn → Option Kind
kind_after kind (Ends found) = found
kind_after kind (Leads t) = kind t
