-- The texts of index forms, and of rows.
use Rattle.std.specs.Prelude.{ℕ, ℤ, pos, Bool, true, false, ◌&&◌, ◌||◌, int_le, if◌then◌else◌, List, [], ◌∷◌, ◌++◌, map, codes}
use Rattle.std.specs.Ordering.{int_eq}
use Rattle.affine_rows.specs.declared.quasi.Quasi.{Quasi, Quasi-F, out-Quasi, fold-Quasi}
use Rattle.affine_rows.specs.declared.quasi.Floor.{Floor, Floor-F, fold-Floor}
use Rattle.expr_tree.specs.declared.row.QuasiRow.{QuasiRow}
use Rattle.text_writer.specs.Bytes.{Bytes, in_round, in_square, separated}
use Rattle.text_writer.specs.NumberText.{number_text, sum_text}
use Rattle.kernel_printer.specs.Spelling.{ordered}

-- How forms are spelled: the names of variables, and their order.
pub record Spelling : Type 0 where
  pub name : ℕ → Bytes
  pub order : List ℕ

-- a form divided by a number and rounded down
abbrev pub quotient_text : Bytes → ℤ → Bytes
quotient_text text by = codes "((" ++ text ++ codes ")//" ++ number_text by ++ codes ")"

-- a term as a part of a sum
abbrev pub term_part : (ℕ → Bytes) → ℕ × ℤ → ℤ × Bytes
term_part name t = (t.1, name t.0)

-- a floor as a part of a sum, with the text of the form under it in that form's place
abbrev pub floor_step : Floor-F (ℤ × Bytes) Bytes → ℤ × Bytes
floor_step f = (f.times, quotient_text f.inner f.by)

-- a form: its terms in the order of the variables, its floors in order, and its constant
abbrev pub form_step : Spelling → Quasi-F (ℤ × Bytes) Bytes → Bytes
form_step s q = sum_text true (map (term_part s.name) (ordered s.order q.terms) ++ q.floors) q.constant

abbrev pub form_text : Spelling → Quasi → Bytes
form_text s = fold-Quasi (ℤ × Bytes) Bytes floor_step (form_step s)

abbrev pub floor_part : Spelling → Floor → ℤ × Bytes
floor_part s = fold-Floor (ℤ × Bytes) Bytes floor_step (form_step s)

-- forms in a list
abbrev pub forms_text : Spelling → List Quasi → Bytes
forms_text s forms = separated true (codes ", ") (map (form_text s) forms)

-- subscripts, where there are any
abbrev pub place_text : Spelling → List Quasi → Bytes
place_text s [] = []
place_text s (q ∷ qs) = in_square (forms_text s (q ∷ qs))

-- the text is one number without a sign
abbrev pub is_number : List (ℕ × ℤ) → List Floor → ℤ → Bool
is_number [] [] constant = int_le (pos 0) constant
is_number _ _ constant = false

-- the text is one name
abbrev pub is_name : List (ℕ × ℤ) → List Floor → ℤ → Bool
is_name (t ∷ []) [] constant = int_eq t.1 (pos 1) && int_eq constant (pos 0)
is_name _ _ constant = false

abbrev pub is_number_form : Quasi → Bool
is_number_form q = let it = out-Quasi q in is_number it.terms it.floors it.constant

abbrev pub is_name_form : Quasi → Bool
is_name_form q = let it = out-Quasi q in is_name it.terms it.floors it.constant

-- a form below another node: in parentheses, unless it is one number without a sign or one name
abbrev pub operand_text : Spelling → Quasi → Bytes
operand_text s q = if is_number_form q || is_name_form q then form_text s q else in_round (form_text s q)

-- a form as the first of two values of `min` or `max`, where one bare name would be the iname of a reduction
abbrev pub first_text : Spelling → Quasi → Bytes
first_text s q = if is_name_form q then codes "1*" ++ form_text s q else operand_text s q

-- a row
abbrev pub relation_text : Bool → Bytes
relation_text true = codes " = 0"
relation_text false = codes " >= 0"

abbrev pub row_text : Spelling → QuasiRow → Bytes
row_text s r = form_text s r.form ++ relation_text r.equal

-- rows, all of which hold
abbrev pub rows_text : Spelling → List QuasiRow → Bytes
rows_text s rows = separated true (codes " and ") (map (row_text s) rows)
