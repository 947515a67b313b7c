use Rattle.std.proofs.Common.{◌≡◌, take}
use Rattle.std.specs.Prelude.{count_by}
use Rattle.elimination.specs.Stages.{is_without}
use Rattle.elimination.proofs.rows.without_count.Given as goal

abbrev pub invariant-loop-row : goal.invariant-loop-row
invariant-loop-row l = l.count ≡ count_by (is_without l.var) (take l.row-index l.rows)
