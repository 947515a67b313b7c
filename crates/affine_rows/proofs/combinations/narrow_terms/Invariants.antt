use Rattle.std.proofs.Common.{◌≡◌, take, map, true}
use Rattle.std.specs.List.{list_all}
use Rattle.affine_rows.specs.Reduced.{divided_term, fits_entry}
use Rattle.affine_rows.proofs.combinations.narrow_terms.Given as goal

abbrev pub invariant-loop-term : goal.invariant-loop-term
invariant-loop-term l = record {
  same : l.terms ≡ map (divided_term l.fn.by) (take l.term-index l.wide);
  fits : list_all (λ t. fits_entry (divided_term l.fn.by t).1) (take l.term-index l.wide) ≡ true;
}
