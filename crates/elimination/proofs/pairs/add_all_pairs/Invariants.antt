use Rattle.std.proofs.Common.{◌≡◌, ◌++◌, take, true}
use Rattle.std.specs.Prelude.{flat_map, filter}
use Rattle.std.specs.List.{list_all}
use Rattle.affine_rows.specs.Reduced.{fits_row}
use Rattle.elimination.specs.Stages.{bounds_below, pairs_of}
use Rattle.elimination.proofs.pairs.add_all_pairs.Given as goal

abbrev pub invariant-loop-lower : goal.invariant-loop-lower
invariant-loop-lower l = record {
  rows : l.made.items ≡ l.initial.made.items ++ flat_map (pairs_of l.var l.rows) (filter (bounds_below l.var) (take l.lower-index l.rows));
  fits : list_all fits_row (flat_map (pairs_of l.var l.rows) (filter (bounds_below l.var) (take l.lower-index l.rows))) ≡ true;
}
