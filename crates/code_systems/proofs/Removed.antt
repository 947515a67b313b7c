-- A system without one of its rows.
use Rattle.std.proofs.Common.{◌≡◌, ℕ, ◌<◌, List, All, length, take, drop, suc, sym, subst}
use Rattle.std.specs.Prelude.{slice_index_or}
use Rattle.std.specs.List.{remove}
use Rattle.std.proofs.lemmas.List.Elements.{All-append, All-drop, All-get_or, All-take}
use Rattle.affine_rows.specs.declared.row.Row.{Row}
use Rattle.affine_rows.specs.declared.row.System.{System}
use Rattle.affine_rows.specs.Rows.{IsRow}
use Rattle.elimination.specs.Stages.{IsSystem}

rows_left : (width : ℕ) (rows : List Row) (n : ℕ) → All (IsRow width) rows → All (IsRow width) (remove rows n)
rows_left width rows n h = All-append (IsRow width) (take n rows) (drop (suc n) rows) (All-take (IsRow width) n rows h) (All-drop (IsRow width) (suc n) rows h)

-- the other rows are those of a system
pub others_are : (s : System) (left rows : List Row) (n : ℕ) → IsSystem s → rows ≡ s.rows → left ≡ remove rows n → IsSystem (record { width = s.width; rows = left })
others_are s left rows n h same gone = record {
  few = h.few;
  rows = subst (All (IsRow s.width)) (sym gone) (rows_left s.width rows n (subst (All (IsRow s.width)) (sym same) h.rows));
}

-- the row that was taken out is one over its variables
pub taken_is : (s : System) (rows : List Row) (n : ℕ) (r : Row) → IsSystem s → rows ≡ s.rows → n < length rows → r ≡ slice_index_or rows n r → IsRow s.width r
taken_is s rows n r h same within at = subst (IsRow s.width) (sym at) (All-get_or (IsRow s.width) rows n r within (subst (All (IsRow s.width)) (sym same) h.rows))
