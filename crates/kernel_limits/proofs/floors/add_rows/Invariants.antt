use Rattle.std.proofs.Common.{◌≡◌, ◌++◌, map, take}
use Rattle.kernel_limits.proofs.floors.add_rows.Given as goal

abbrev pub invariant-loop-row : goal.invariant-loop-row
invariant-loop-row l = l.made ≡ l.initial.made ++ map (λ r. r.form) (take l.row-index l.rows)
