use Rattle.std.proofs.Common.{◌≡◌, ◌++◌, map, take}
use Rattle.std.specs.Prelude.{filter}
use Rattle.expr_tree.specs.Scenes.{mentions_only}
use Rattle.kernel_limits.proofs.floors.add_rows_over.Given as goal

abbrev pub invariant-loop-row : goal.invariant-loop-row
invariant-loop-row l = l.made ≡ l.initial.made ++ map (λ r. r.form) (filter (λ r. mentions_only l.vars r.form) (take l.row-index l.rows))
