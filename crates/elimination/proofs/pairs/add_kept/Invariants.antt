use Rattle.std.proofs.Common.{◌≡◌, ◌++◌, take, map}
use Rattle.std.specs.Prelude.{filter}
use Rattle.affine_rows.specs.Reduced.{reduced_row}
use Rattle.elimination.specs.Stages.{is_without}
use Rattle.elimination.proofs.pairs.add_kept.Given as goal

abbrev pub invariant-loop-row : goal.invariant-loop-row
invariant-loop-row l = l.made.items ≡ l.initial.made.items ++ map reduced_row (filter (is_without l.var) (take l.row-index l.rows))
