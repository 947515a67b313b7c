-- What is wrong with an expression in its place.
use Rattle.std.specs.Prelude.{ℕ, Bool, ◌||◌, if◌then◌else◌, List, [], ◌∷◌, map, Option, Some, None}
use Rattle.affine_rows.specs.declared.quasi.Quasi.{Quasi}
use Rattle.kernel_grammar.specs.declared.step.Step.{Step}
use Rattle.kernel_names.specs.declared.limit.Limit.{Limit}
use Rattle.kernel_names.specs.declared.limit.Limit.TheVariants as limit
use Rattle.kernel_names.specs.declared.limit.LineFaults.{LineFaults}
use Rattle.kernel_names.specs.Lines.{no_faults, first_faults}
use Rattle.untyped.specs.declared.faults.Faults.{Faults}
use Rattle.untyped.specs.declared.reading.Part.{Part}
use Rattle.untyped.specs.declared.reading.Part.TheVariants as part
use Rattle.untyped.specs.declared.reading.Reading.{Reading}
use Rattle.untyped.specs.Indexes.{one}
use Rattle.untyped.specs.Readings.{Roles, is_index, untyped_of}

-- the limit that an expression passes; `number` says whether a number past 1048576 stands in an index position
abbrev pub limit_in : Bool → Faults → Option Limit
limit_in number f =
    if f.wide then Some limit.Wide else
    if number then Some limit.Number else
    if f.depth then Some limit.Depth else
    if f.form then Some limit.Form else None

-- an expression that is a value or a test
abbrev pub value_faults : Faults → LineFaults
value_faults f = record { limit = limit_in f.number f; unknown = f.unknown; taken = None; shape = f.shape }

-- an expression that has to be an index expression; else the word is refused
abbrev pub index_faults : List ℕ → Bool → Faults → LineFaults
index_faults word is f = record {
  limit = limit_in (f.number || f.large) f;
  unknown = f.unknown;
  taken = None;
  shape = if is then f.shape else Some word;
}

abbrev pub reading_faults : List ℕ → Reading → LineFaults
reading_faults word r = index_faults word (is_index r.part) r.faults

-- its form, and 1 where it is none
abbrev pub index_of : Part → Quasi
index_of (part.Index form constant) = form
index_of (part.Tree tree) = one

-- index expressions, one after the other
abbrev pub forms_of : Roles → List (List Step) → List Quasi
forms_of roles items = map (λ steps. index_of (untyped_of roles steps).part) items

abbrev pub forms_faults : Roles → List ℕ → List (List Step) → LineFaults
forms_faults roles word [] = no_faults
forms_faults roles word (steps ∷ items) = first_faults (reading_faults word (untyped_of roles steps)) (forms_faults roles word items)
