use Rattle.std.proofs.Common.{map, take}
use Rattle.set_query.specs.Hulls.{IsLeast}
use Rattle.set_query.proofs.spanning.least_constant.Given as goal

abbrev pub invariant-loop-row : goal.invariant-loop-row
invariant-loop-row l = IsLeast (map (λ r. r.constant) (take l.row-index l.rows)) l.least
