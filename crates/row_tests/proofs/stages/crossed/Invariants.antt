use Rattle.std.proofs.Common.{All}
use Rattle.affine_rows.specs.Rows.{IsRow}
use Rattle.row_tests.proofs.stages.crossed.Given as goal

abbrev pub invariant-loop-low : goal.invariant-loop-low
invariant-loop-low l = All (IsRow 3) l.rows

abbrev pub invariant-loop-high : goal.invariant-loop-high
invariant-loop-high l = All (IsRow 3) l.rows
