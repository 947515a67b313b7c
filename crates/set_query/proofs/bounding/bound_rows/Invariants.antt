use Rattle.std.proofs.Common.{◌≡◌, ◌++◌, drop}
use Rattle.set_query.specs.Bounding.{bound_rows}
use Rattle.set_query.proofs.bounding.bound_rows.Given as goal

abbrev pub invariant-loop-row : goal.invariant-loop-row
invariant-loop-row l = l.made ++ bound_rows l.side l.var (drop l.row-index l.rows) ≡ bound_rows l.side l.var l.rows
