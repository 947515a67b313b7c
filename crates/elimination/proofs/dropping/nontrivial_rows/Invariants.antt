use Rattle.std.proofs.Common.{◌≡◌, take, map, not}
use Rattle.elimination.specs.Stages.{is_trivial}
use Rattle.elimination.proofs.dropping.nontrivial_rows.Given as goal

abbrev pub invariant-loop-row : goal.invariant-loop-row
invariant-loop-row l = l.marks.items ≡ map (λ r. not (is_trivial r)) (take l.row-index l.rows)
