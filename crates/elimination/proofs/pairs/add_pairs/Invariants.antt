use Rattle.std.proofs.Common.{◌≡◌, ◌++◌, take, true}
use Rattle.std.specs.List.{list_all}
use Rattle.affine_rows.specs.Reduced.{fits_row}
use Rattle.elimination.specs.Stages.{pairs_of}
use Rattle.elimination.proofs.pairs.add_pairs.Given as goal

abbrev pub invariant-loop-upper : goal.invariant-loop-upper
invariant-loop-upper l = record {
  rows : l.made.items ≡ l.initial.made.items ++ pairs_of l.var (take l.upper-index l.rows) l.lower;
  fits : list_all fits_row (pairs_of l.var (take l.upper-index l.rows) l.lower) ≡ true;
}
