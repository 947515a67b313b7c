-- The texts of index forms.
use Rattle.std.specs.Prelude.{ℕ, ℤ, true, List, ◌++◌, map, codes}
use Rattle.affine_rows.specs.declared.quasi.Quasi.{Quasi, Quasi-F, fold-Quasi}
use Rattle.affine_rows.specs.declared.quasi.Floor.{Floor, Floor-F, fold-Floor}
use Rattle.text_writer.specs.Bytes.{Bytes}
use Rattle.text_writer.specs.NumberText.{number_text, sum_text}

-- a form divided by a number and rounded down
abbrev pub quotient_text : Bytes → ℤ → Bytes
quotient_text text by = codes "lp_fd(" ++ text ++ codes ", " ++ number_text by ++ codes ")"

-- a term as a part of a sum, where `names` spells the variables
abbrev pub term_part : (ℕ → Bytes) → ℕ × ℤ → ℤ × Bytes
term_part names t = (t.1, names t.0)

-- a floor as a part of a sum, with the text of the form under it in that form's place
abbrev pub floor_step : Floor-F (ℤ × Bytes) Bytes → ℤ × Bytes
floor_step f = (f.times, quotient_text f.inner f.by)

-- a form: its terms in order, its floors in order, and its constant
abbrev pub form_step : (ℕ → Bytes) → Quasi-F (ℤ × Bytes) Bytes → Bytes
form_step names q = sum_text true (map (term_part names) q.terms ++ q.floors) q.constant

abbrev pub form_text : (ℕ → Bytes) → Quasi → Bytes
form_text names = fold-Quasi (ℤ × Bytes) Bytes floor_step (form_step names)

abbrev pub floor_part : (ℕ → Bytes) → Floor → ℤ × Bytes
floor_part names = fold-Floor (ℤ × Bytes) Bytes floor_step (form_step names)
