-- What the values lead with that are stored to temporaries, and the kinds of cells.
use Rattle.std.specs.Prelude.{ℕ, zero, suc, List, find, length, slice_get, Option, Some, None}
use Rattle.wrap_words.specs.declared.kind.Kind.{Kind}
use Rattle.expr_tree.specs.declared.tree.Cell.{Cell}
use Rattle.expr_tree.specs.declared.tree.Cell.TheVariants.{Array, Temp}
use Rattle.kernel_ir.specs.Kinds.{array_kind}
use Rattle.kernel_ir.specs.declared.kernel.Kernel.{Kernel}
use Rattle.kind_faults.specs.declared.leads.Leading.{Leading}
use Rattle.type_infer.specs.Inferred.{is_temp, kind_by}
use Rattle.untyped_parts.specs.declared.trees.InsnTree.{InsnTree}
use Rattle.untyped_parts.specs.declared.trees.RuleTree.{RuleTree}
use Rattle.untyped_parts.specs.Leads.{leading_of}

-- a use of a rule leads with what its body leads with
abbrev pub body_leading : (ℕ → Option Leading) → Option RuleTree → Option Leading
body_leading call None = None
body_leading call (Some r) = leading_of call r.body

-- what a use of a rule leads with, where uses are at most so deep
abbrev pub leading_to : List RuleTree → ℕ → ℕ → Option Leading
leading_to rules zero rule = None
leading_to rules (suc n) rule = body_leading (leading_to rules n) (slice_get rules rule)

-- rules use each other at most as deep as there are rules
abbrev pub rule_leading : List RuleTree → ℕ → Option Leading
rule_leading rules = leading_to rules (length rules)

abbrev pub value_leading : (ℕ → Option Leading) → Option InsnTree → Option Leading
value_leading call None = None
value_leading call (Some A) = leading_of call A.value

-- what the value leads with that the first instruction stores to a temporary
abbrev pub stored_leading : List RuleTree → List InsnTree → ℕ → Option Leading
stored_leading rules insns t = value_leading (rule_leading rules) (find (λ A. is_temp t A.cell) insns)

-- the kind of an array as declared, and of a temporary the one that it has or else that of what leads the first value stored to it
abbrev pub cell_kind : Kernel → List RuleTree → List InsnTree → Cell → Option Kind
cell_kind K rules insns (Array n) = array_kind (slice_get K.arrays n)
cell_kind K rules insns (Temp t) = kind_by K (stored_leading rules insns) t
