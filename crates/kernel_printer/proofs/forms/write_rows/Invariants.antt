-- What is written, followed by what is left, is the whole.
use Rattle.std.proofs.Common.{◌≡◌, ◌++◌, drop, map, codes}
use Rattle.text_writer.specs.Bytes.{separated}
use Rattle.kernel_printer.specs.FormText.{row_text, rows_text}
use Rattle.kernel_printer.specs.Spelled.{spelling_of}
use Rattle.kernel_printer.proofs.forms.write_rows.Given as goal

abbrev pub invariant-loop-row : goal.invariant-loop-row
invariant-loop-row l = l.out.items ++ separated l.first (codes " and ") (map (row_text (spelling_of l.spelling)) (drop l.row-index l.rows)) ≡ l.fn.out.items ++ rows_text (spelling_of l.spelling) l.rows
