-- What is written, followed by the rows that are left, is all rows.
use Rattle.std.proofs.Common.{◌≡◌, ◌++◌, drop, map, codes}
use Rattle.text_writer.specs.Bytes.{separated}
use Rattle.code_text.specs.Names.{name_text}
use Rattle.code_text.specs.StatementText.{row_text, rows_text}
use Rattle.code_text.proofs.statements.write_rows.Given as goal

abbrev pub invariant-loop-row : goal.invariant-loop-row
invariant-loop-row l =
    l.out.items ++ separated l.first (codes " && ") (map (row_text (name_text l.code)) (drop l.row-index l.rows)) ≡ l.fn.out.items ++ rows_text (name_text l.code) l.rows
