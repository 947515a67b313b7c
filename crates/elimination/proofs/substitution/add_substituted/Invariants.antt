use Rattle.std.proofs.Common.{◌≡◌, ◌++◌, take, map, true}
use Rattle.std.specs.List.{list_all}
use Rattle.affine_rows.specs.Reduced.{fits_row, reduced_row}
use Rattle.elimination.specs.Stages.{substituted}
use Rattle.elimination.proofs.substitution.add_substituted.Given as goal

abbrev pub invariant-loop-row : goal.invariant-loop-row
invariant-loop-row l = record {
  rows : l.made.items ≡ l.initial.made.items ++ map (λ r. reduced_row (substituted l.var l.equality r)) (take l.row-index l.rows);
  fits : list_all fits_row (map (λ r. reduced_row (substituted l.var l.equality r)) (take l.row-index l.rows)) ≡ true;
}
