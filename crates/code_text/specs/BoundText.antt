-- The texts of bounds and of subscripts.
use Rattle.std.specs.Prelude.{ℕ, List, [], ◌∷◌, ◌++◌, map, codes}
use Rattle.code_tree.specs.declared.code.Bound.{Bound, Bound-F, fold-Bound}
use Rattle.code_tree.specs.declared.code.Flat.{Flat}
use Rattle.code_tree.specs.declared.code.Flat.TheVariants as flat
use Rattle.text_writer.specs.Bytes.{Bytes, in_round}
use Rattle.code_text.specs.FormText.{form_text, quotient_text}

-- the least or the greatest of a list, two at a time
abbrev pub list_text : Bytes → List Bytes → Bytes
list_text call [] = []
list_text call (b ∷ []) = b
list_text call (b ∷ c ∷ bs) = call ++ codes "(" ++ b ++ codes ", " ++ list_text call (c ∷ bs) ++ codes ")"

-- one bound, with the texts of a list's bounds in their places
abbrev pub bound_step : (ℕ → Bytes) → Bound-F Bytes → Bytes
bound_step names (Bound-F.Form q) = form_text names q
bound_step names (Bound-F.FloorOf q by) = quotient_text (form_text names q) by
bound_step names (Bound-F.MinusFloorOf q by) = codes "-" ++ quotient_text (form_text names q) by
bound_step names (Bound-F.Least bounds) = list_text (codes "lp_min") bounds
bound_step names (Bound-F.Greatest bounds) = list_text (codes "lp_max") bounds

abbrev pub bound_text : (ℕ → Bytes) → Bound → Bytes
bound_text names = fold-Bound Bytes (bound_step names)

-- times a shape entry, plus a place
abbrev pub turn_text : Bytes → Bytes → Bytes
turn_text shape place = codes "*" ++ in_round shape ++ codes " + " ++ in_round place ++ codes ")"

-- what was written of a subscript, times the next shape entry, plus the next place
abbrev pub horner_text : Bytes → List Bytes → List Bytes → Bytes
horner_text so_far [] shapes = so_far
horner_text so_far (place ∷ places) [] = so_far
horner_text so_far (place ∷ places) (shape ∷ shapes) =
    horner_text (codes "(" ++ so_far ++ turn_text shape place) places shapes

-- several places, the first in parentheses
abbrev pub places_text : List Bytes → List Bytes → Bytes
places_text [] shapes = []
places_text (place ∷ places) shapes = horner_text (in_round place) places shapes

abbrev pub flat_text : (ℕ → Bytes) → Flat → Bytes
flat_text names (flat.Form q) = form_text names q
flat_text names (flat.Horner places shapes) = places_text (map (form_text names) places) (map (form_text names) shapes)
