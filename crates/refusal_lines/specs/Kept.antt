-- What a rule keeps, as words with a blank before each.
use Rattle.std.specs.Prelude.{ℕ, ℤ, pos, ◌==◌, Bool, true, false, ◌&&◌, ◌||◌, bytes_eq, List, [], ◌∷◌, ◌++◌, map, drop, length, codes, if◌then◌else◌, slice_get, unwrap_or, Option, Some, None}
use Rattle.std.specs.List.{list_any}
use Rattle.std.specs.Fmt.{signed_decimal}
use Rattle.affine_rows.specs.declared.point.Point.{Point}
use Rattle.kernel_ir.specs.declared.fault.Refusal.{Refusal}
use Rattle.refusal_lines.specs.declared.rules.Kept.{Kept}
use Rattle.refusal_lines.specs.declared.rules.Kept.TheVariants.{Listed, Bytes, Nothing, Placed, PlacedAt, Cells, TwoAt, ThreeAt, Stage, Row, Children, Race, Divergent, Outside}

-- the word at a place, and with a comma behind it
abbrev pub name_at : List (List ℕ) → ℕ → List ℕ
name_at names at = unwrap_or (slice_get names at) []

abbrev pub ended_at : List (List ℕ) → ℕ → List ℕ
ended_at names at = name_at names at ++ codes ","

abbrev pub number_at : List ℤ → ℕ → List ℕ
number_at numbers at = signed_decimal (unwrap_or (slice_get numbers at) (pos 0))

-- ---- values

-- name=number, one after the other
abbrev pub values : List (List ℕ) → List ℤ → List (List ℕ)
values [] numbers = []
values (name ∷ names) [] = []
values (name ∷ names) (number ∷ numbers) = (name ++ codes "=" ++ signed_decimal number) ∷ values names numbers

-- at the values, over their denominator
abbrev pub at_point : List (List ℕ) → Option Point → List (List ℕ)
at_point names None = []
at_point names (Some point) = codes "at" ∷ values names point.at ++ codes "over" ∷ signed_decimal point.over ∷ []

-- ---- cells

abbrev pub is_side : List ℕ → Bool
is_side word = bytes_eq word (codes "below") || bytes_eq word (codes "above")

-- an axis of groups or items
abbrev pub is_axis : List ℕ → Bool
is_axis word =
    ((((bytes_eq word (codes "g.0") || bytes_eq word (codes "g.1")) || bytes_eq word (codes "g.2"))
    || bytes_eq word (codes "l.0")) || bytes_eq word (codes "l.1")) || bytes_eq word (codes "l.2")

-- the case is an axis's, or a variable's, which is then among the values, and the side on which it differs
abbrev pub has_side : List (List ℕ) → Bool
has_side [] = false
has_side (word ∷ []) = false
has_side (word ∷ side ∷ names) = is_side side && (is_axis word || list_any (bytes_eq word) names)

abbrev pub case_words : List (List ℕ) → Option Point → List (List ℕ)
case_words names point =
    if has_side names then name_at names 0 ∷ ended_at names 1 ∷ at_point (drop 2 names) point
    else ended_at names 0 ∷ at_point (drop 1 names) point

-- two accesses, and the case in which they meet
abbrev pub cell_words : List (List ℕ) → Option Point → List (List ℕ)
cell_words names point =
    name_at names 0 ∷ name_at names 1 ∷ codes "and" ∷ name_at names 2 ∷ ended_at names 3 ∷ codes "case" ∷ case_words (drop 4 names) point

-- ---- the other shapes

-- children with a comma between them
abbrev pub children : List (List ℕ) → List (List ℕ)
children [] = []
children (child ∷ []) = child ∷ []
children (child ∷ next ∷ more) = (child ++ codes ",") ∷ children (next ∷ more)

-- an array or cell with a length has an index, any other cell none
abbrev pub indexed : List ℕ → List ℤ → List ℕ
indexed name numbers = name ++ codes "[" ++ number_at numbers 1 ++ codes "]"

abbrev pub indexed_race : List (List ℕ) → List ℤ → List (List ℕ)
indexed_race names numbers = codes "step" ∷ number_at numbers 0 ∷ indexed (name_at names 0) numbers ∷ codes "items" ∷ number_at numbers 2 ∷ number_at numbers 3 ∷ []

abbrev pub single_race : List (List ℕ) → List ℤ → List (List ℕ)
single_race names numbers = codes "step" ∷ number_at numbers 0 ∷ name_at names 0 ∷ codes "items" ∷ number_at numbers 1 ∷ number_at numbers 2 ∷ []

abbrev pub race_words : List (List ℕ) → List ℤ → List (List ℕ)
race_words names numbers = if length numbers == 4 then indexed_race names numbers else single_race names numbers

abbrev pub words_by : Kept → List (List ℕ) → List ℤ → Option Point → List (List ℕ)
words_by Listed names numbers point = names ++ map signed_decimal numbers
words_by Bytes names numbers point = codes "after" ∷ number_at numbers 0 ∷ codes "bytes" ∷ []
words_by Nothing names numbers point = codes "-" ∷ []
words_by Placed names numbers point = name_at names 0 ∷ codes "place" ∷ number_at numbers 0 ∷ name_at names 1 ∷ []
words_by PlacedAt names numbers point = name_at names 0 ∷ name_at names 1 ∷ codes "place" ∷ number_at numbers 0 ∷ ended_at names 2 ∷ at_point (drop 3 names) point
words_by Cells names numbers point = cell_words names point
words_by TwoAt names numbers point = name_at names 0 ∷ ended_at names 1 ∷ at_point (drop 2 names) point
words_by ThreeAt names numbers point = name_at names 0 ∷ name_at names 1 ∷ ended_at names 2 ∷ at_point (drop 3 names) point
words_by Stage names numbers point = codes "stage" ∷ number_at numbers 0 ∷ []
words_by Row names numbers point = codes "stage" ∷ number_at numbers 0 ∷ codes "row" ∷ number_at numbers 1 ∷ []
words_by Children names numbers point = children names
words_by Race names numbers point = race_words names numbers
words_by Divergent names numbers point = codes "step" ∷ number_at numbers 0 ∷ codes "group" ∷ number_at numbers 1 ∷ []
words_by Outside names numbers point = codes "step" ∷ number_at numbers 0 ∷ name_at names 0 ∷ codes "index" ∷ number_at numbers 1 ∷ name_at names 1 ∷ []

-- how what a rule keeps is said
abbrev pub kept_by : ℕ → Kept
kept_by number =
    if number == 4 then Bytes
    else if number == 11 then Nothing
    else if number == 14 then PlacedAt
    else if (number == 15) || ((number == 27) || (number == 37)) then Cells
    else if number == 16 then ThreeAt
    else if number == 18 then Row
    else if number == 19 then Stage
    else if number == 24 then TwoAt
    else if number == 28 then Placed
    else if number == 33 then Children
    else if number == 41 then Race
    else if number == 42 then Divergent
    else if number == 43 then Outside
    else Listed

abbrev pub kept_words : Refusal → List (List ℕ)
kept_words r = words_by (kept_by r.number) r.names r.numbers r.point
