-- What is kept of cells and of rules, by their numbers.
use Rattle.std.specs.Prelude.{ℕ, nat_lt, List, filter, length, map, slice_get, Option, Some, None}
use Rattle.wrap_words.specs.declared.kind.Kind.{Kind}
use Rattle.expr_tree.specs.declared.tree.Cell.{Cell}
use Rattle.expr_tree.specs.declared.tree.Cell.TheVariants.{Array, Temp}
use Rattle.type_infer.specs.Tables.{fault_at}
use Rattle.untyped.specs.Asked.{Asked, Known}
use Rattle.untyped_parts.specs.declared.trees.RuleTree.{RuleTree}
use Rattle.kernel_kinds.specs.Asked.{known_with, nothing_asked}
use Rattle.kernel_kinds.specs.Calls.{uses_of}
use Rattle.kernel_kinds.specs.declared.found.Cells.{Cells}
use Rattle.kernel_kinds.specs.declared.found.Kept.{Kept}

abbrev pub kept_kind : Option (Option Kind) → Option Kind
kept_kind None = None
kept_kind (Some kind) = kind

-- the kind that is kept of a temporary
abbrev pub kind_at : List (Option Kind) → ℕ → Option Kind
kind_at kinds temp = kept_kind (slice_get kinds temp)

-- the kind that is kept of a cell
abbrev pub cells_in : Cells → Cell → Option Kind
cells_in c (Array n) = slice_get c.arrays n
cells_in c (Temp n) = kind_at c.temps n

abbrev pub kept_asked : Option Kept → Asked
kept_asked None = nothing_asked
kept_asked (Some r) = record { value = record { first = r.first; fault = fault_at r.values }; test = fault_at r.tests }

-- what is kept of a rule
abbrev pub asked_at : List Kept → ℕ → Asked
asked_at table rule = kept_asked (slice_get table rule)

-- what is known by what is kept
abbrev pub known_by : Cells → List Kept → Known
known_by c table = known_with (cells_in c) (asked_at table)

-- those of these numbers that are less than a count
abbrev pub within : ℕ → List ℕ → List ℕ
within count numbers = filter (λ n. nat_lt n count) numbers

-- the rules that each rule uses, of those that there are
abbrev pub uses_among : List RuleTree → List (List ℕ)
uses_among rules = map (within (length rules)) (uses_of rules)
