use Rattle.std.proofs.Common.{◌≡◌, ◌++◌, drop}
use Rattle.kernel_lines.specs.Rows.{rows_between}
use Rattle.kernel_lines.proofs.rows.rows_between.Given as goal

abbrev pub invariant-left : goal.invariant-left
invariant-left l = l.rows ++ rows_between l.relation (drop l.a-index l.left) l.right ≡ rows_between l.relation l.left l.right
