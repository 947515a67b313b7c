use Rattle.std.proofs.Common.{◌≡◌, take, true}
use Rattle.std.specs.List.{list_all}
use Rattle.affine_rows.specs.Reduced.{fits_entry}
use Rattle.quasi_forms.proofs.sums.narrow_terms.Given as goal

abbrev pub invariant-loop-var : goal.invariant-loop-var
invariant-loop-var l = record {
  same : l.terms ≡ take l.var-index l.wide;
  fits : list_all (λ t. fits_entry t.1) (take l.var-index l.wide) ≡ true;
}
