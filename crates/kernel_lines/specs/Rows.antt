-- Comparisons of index expressions as rows.
use Rattle.std.specs.Prelude.{Bool, List, map, flat_map}
use Rattle.std.specs.List.{list_any}
use Rattle.affine_rows.specs.declared.quasi.Quasi.{Quasi}
use Rattle.expr_tree.specs.declared.row.QuasiRow.{QuasiRow}
use Rattle.kernel_grammar.specs.declared.item.Relation.{Relation}
use Rattle.untyped_parts.specs.declared.rows.RowReading.{RowReading}
use Rattle.untyped_parts.specs.Rows.{row_of}

-- each left form is compared with each right form, left first
abbrev pub rows_between : Relation → List Quasi → List Quasi → List RowReading
rows_between rel left right = flat_map (λ a. map (row_of rel a) right) left

abbrev pub rows_in : List RowReading → List QuasiRow
rows_in made = map (λ m. m.row) made

abbrev pub is_over : List RowReading → Bool
is_over made = list_any (λ m. m.over) made
