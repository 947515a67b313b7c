-- The options of an instruction.
use Rattle.std.specs.Prelude.{ℕ, ◌+◌, max, nat_le, Bool, false, if◌then◌else◌, List, [], ◌∷◌, ◌++◌, Option, Some, None}
use Rattle.std.specs.Option.{option_or}
use Rattle.kernel_grammar.specs.declared.item.InsnOption.{InsnOption}
use Rattle.kernel_grammar.specs.declared.item.InsnOption.TheVariants.{Id, Dep, Inames, If}
use Rattle.kernel_grammar.specs.declared.step.Infix.TheVariants.{And}
use Rattle.kernel_names.specs.declared.declarations.Declarations.{Declarations}
use Rattle.kernel_names.specs.declared.limit.Limit.{Limit}
use Rattle.kernel_names.specs.declared.limit.Limit.TheVariants as limit
use Rattle.kernel_names.specs.declared.limit.LineFaults.{LineFaults}
use Rattle.kernel_names.specs.Lines.{no_faults, first_faults}
use Rattle.kernel_names.specs.Roles.{kernel_roles}
use Rattle.untyped.specs.declared.reading.Reading.{Reading}
use Rattle.untyped.specs.declared.tree.Term.TheVariants as term
use Rattle.untyped.specs.Readings.{tree_of, untyped_of, inames_in}
use Rattle.untyped_parts.specs.Conjuncts.{split_of}
use Rattle.kernel_files.specs.declared.options.Predicate.{Predicate}
use Rattle.kernel_files.specs.declared.options.ReadOptions.{ReadOptions}
use Rattle.kernel_lines.specs.Places.{value_faults}
use Rattle.kernel_lines.specs.Stores.{unknown_in}

abbrev pub no_options : ReadOptions
no_options = record { predicate = None; named = []; faults = no_faults }

-- a name that stands for nothing
abbrev pub unknown_only : Option (List ℕ) → LineFaults
unknown_only name = record no_faults { unknown = name }

-- a predicate that is read
abbrev pub predicate_of : Reading → Predicate
predicate_of r = record { tree = tree_of r.part; depth = r.depth }

-- whether `and` of this and the next is too deep
abbrev pub is_too_deep : Option Predicate → ℕ → Bool
is_too_deep None depth = false
is_too_deep (Some p) depth = nat_le 64 (max p.depth depth)

abbrev pub conjunction : Predicate → Predicate → Predicate
conjunction p q = record { tree = record { term = term.Infix And p.tree q.tree }; depth = max p.depth q.depth + 1 }

-- several predicates are one, by `and`
abbrev pub joined : Option Predicate → Predicate → Predicate
joined None q = q
joined (Some p) q = if nat_le 64 (max p.depth q.depth) then p else conjunction p q

-- what is wrong in a predicate behind another, first in it, then with both together, then with its rows
abbrev pub deep_limit : Bool → Bool → Option Limit
deep_limit deep over = if deep then Some limit.Depth else if over then Some limit.Form else None

abbrev pub together_faults : Option Predicate → Reading → LineFaults
together_faults p r = record no_faults { limit = deep_limit (is_too_deep p r.depth) (split_of (tree_of r.part)).over }

abbrev pub if_faults : Option Predicate → Reading → LineFaults
if_faults p r = first_faults (value_faults r.faults) (together_faults p r)

-- what is read, with an option
abbrev pub with_unknown : ReadOptions → Option (List ℕ) → ReadOptions
with_unknown s name = record s { faults = first_faults s.faults (unknown_only name) }

abbrev pub with_if : ReadOptions → Reading → ReadOptions
with_if s r = record s { predicate = Some (joined s.predicate (predicate_of r)); faults = first_faults s.faults (if_faults s.predicate r) }

abbrev pub with_inames : ReadOptions → List ℕ → ReadOptions
with_inames s inames = record s { named = s.named ++ inames }

abbrev pub with_option : Declarations → List (List ℕ) → ReadOptions → InsnOption → ReadOptions
with_option D ids s (Id name) = s
with_option D ids s (Dep automatic names) = with_unknown s (unknown_in D ids (Dep automatic names))
with_option D ids s (Inames names) = with_inames (with_unknown s (unknown_in D ids (Inames names))) (inames_in (kernel_roles D) names)
with_option D ids s (If steps) = with_if s (untyped_of (kernel_roles D) steps)

-- options in order, behind what is read
abbrev pub options_behind : Declarations → List (List ℕ) → ReadOptions → List InsnOption → ReadOptions
options_behind D ids s [] = s
options_behind D ids s (o ∷ os) = options_behind D ids (with_option D ids s o) os

-- The predicate, the inames of `inames=` and what is wrong.
abbrev pub options_of : Declarations → List (List ℕ) → List InsnOption → ReadOptions
options_of D ids options = options_behind D ids no_options options
