use Rattle.std.proofs.Common.{◌≡◌, take}
use Rattle.std.specs.Prelude.{count_by}
use Rattle.elimination.specs.Stages.{bounds_below}
use Rattle.elimination.proofs.rows.below_count.Given as goal

abbrev pub invariant-loop-row : goal.invariant-loop-row
invariant-loop-row l = l.count ≡ count_by (bounds_below l.var) (take l.row-index l.rows)
