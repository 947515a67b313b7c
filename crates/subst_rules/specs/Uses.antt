-- The uses of rules, in the order of the text.
use Rattle.std.specs.Prelude.{ℕ, Bool, true, nat_eq, ◌&&◌, if◌then◌else◌, List, [], ◌∷◌, ◌++◌, map, flat_map, slice_get, Option, Some, None}
use Rattle.std.specs.List.{list_any}
use Rattle.affine_rows.specs.declared.quasi.Quasi.{Quasi}
use Rattle.kernel_ir.specs.declared.kernel.Kernel.{Kernel}
use Rattle.kernel_ir.specs.declared.kernel.Insn.{Insn}
use Rattle.kernel_ir.specs.declared.kernel.SubstRule.{SubstRule}
use Rattle.kernel_ir.specs.Mentions.{Listing, listed, listed_in, calls}

-- ---- with their arguments

-- the uses of one rule, with an id before the arguments
abbrev pub uses_of : List ℕ → ℕ → Listing (List ℕ × List Quasi)
uses_of id rule = record {
  leaf = λ q. [];
  read = λ cell place. [];
  call = λ used arguments. if nat_eq used rule then (id, arguments) ∷ [] else [];
  index = λ a b. [];
  fold = λ inames. [];
}

-- those in an instruction: value before predicate
abbrev pub uses_in_insn : ℕ → Insn → List (List ℕ × List Quasi)
uses_in_insn rule A = listed (uses_of A.id rule) A.value ++ listed_in (uses_of A.id rule) A.test

-- those in a kernel's instructions, in order
abbrev pub uses_in : Kernel → ℕ → List (List ℕ × List Quasi)
uses_in K rule = flat_map (uses_in_insn rule) K.insns

-- ---- with the count of their arguments

-- those in an instruction: value before predicate
abbrev pub calls_in_insn : Insn → List (ℕ × ℕ)
calls_in_insn A = listed calls A.value ++ listed_in calls A.test

-- those in each rule's body
abbrev pub calls_of : List SubstRule → List (List (ℕ × ℕ))
calls_of rules = map (λ r. listed calls r.body) rules

-- ---- ways from rule to rule

abbrev pub or_empty : Option (List (ℕ × ℕ)) → List (ℕ × ℕ)
or_empty None = []
or_empty (Some cs) = cs

-- what the rule uses, by the uses in each body
abbrev pub calls_at : List (List (ℕ × ℕ)) → ℕ → List (ℕ × ℕ)
calls_at bodies rule = or_empty (slice_get bodies rule)

abbrev pub is_used : List (List (ℕ × ℕ)) → ℕ → ℕ → Bool
is_used bodies rule next = list_any (λ c. nat_eq c.0 next) (calls_at bodies rule)

-- each rule on the way uses the next one
abbrev pub walks : List (List (ℕ × ℕ)) → ℕ → List ℕ → Bool
walks bodies rule [] = true
walks bodies rule (next ∷ way) = is_used bodies rule next && walks bodies next way
