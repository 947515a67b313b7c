-- What uses of rules are, where values and tests are told apart by the place.
use Rattle.std.specs.Prelude.{ℕ, zero, suc, List, length, slice_get, Option, Some, None}
use Rattle.std.specs.Option.{option_or}
use Rattle.wrap_words.specs.declared.kind.Kind.{Kind}
use Rattle.expr_tree.specs.declared.tree.Cell.{Cell}
use Rattle.kernel_ir.specs.declared.kernel.Kernel.{Kernel}
use Rattle.kind_faults.specs.Faults.{misplaced}
use Rattle.untyped.specs.Asked.{Asked, Known, asked_of}
use Rattle.untyped_parts.specs.declared.trees.InsnTree.{InsnTree}
use Rattle.untyped_parts.specs.declared.trees.RuleTree.{RuleTree}
use Rattle.kernel_kinds.specs.Leads.{cell_kind}

-- there is no such rule
abbrev pub nothing_asked : Asked
nothing_asked = record { value = record { first = None; fault = misplaced }; test = misplaced }

-- a use of a rule in the place of a test is a value used as a test, behind the faults of the rule's body there
abbrev pub as_use : Asked → Asked
as_use body = record { value = body.value; test = λ k. option_or (body.test k) (misplaced k) }

abbrev pub known_with : (Cell → Option Kind) → (ℕ → Asked) → Known
known_with cells call = record { cell = cells; call = call }

abbrev pub rule_asked : Known → Option RuleTree → Asked
rule_asked w None = nothing_asked
rule_asked w (Some r) = as_use (asked_of w r.body)

-- what a use of a rule is, where uses are at most so deep: a fault of the rule's body is one of the use
abbrev pub asked_to : (Cell → Option Kind) → List RuleTree → ℕ → ℕ → Asked
asked_to cells rules zero rule = nothing_asked
asked_to cells rules (suc n) rule = rule_asked (known_with cells (asked_to cells rules n)) (slice_get rules rule)

-- rules use each other at most as deep as there are rules
abbrev pub known_over : (Cell → Option Kind) → List RuleTree → Known
known_over cells rules = known_with cells (asked_to cells rules (length rules))

-- the kinds of a file's cells, and what uses of its rules are
abbrev pub known_of : Kernel → List RuleTree → List InsnTree → Known
known_of K rules insns = known_over (cell_kind K rules insns) rules
