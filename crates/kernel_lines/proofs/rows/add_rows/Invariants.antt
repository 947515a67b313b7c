use Rattle.std.proofs.Common.{◌≡◌, ◌++◌}
use Rattle.kernel_lines.specs.Rows.{is_over, rows_in}
use Rattle.kernel_lines.proofs.rows.add_rows.Given as goal

abbrev pub invariant-compared : goal.invariant-compared
invariant-compared l = record {
  over : l.over ≡ is_over l.yielded;
  rows : l.rows ≡ l.fn.rows ++ rows_in l.yielded;
}
