use Rattle.std.proofs.Common.{◌≡◌, true, take}
use Rattle.std.specs.List.{list_all}
use Rattle.affine_rows.specs.declared.quasi.Floor.{out-Floor}
use Rattle.affine_rows.specs.Reduced.{fits_entry}
use Rattle.quasi_forms.specs.Collected.{kept_floors}
use Rattle.quasi_forms.proofs.floors.collected_floors.Given as goal

abbrev pub invariant-loop-at : goal.invariant-loop-at
invariant-loop-at l = record {
  made : l.made ≡ kept_floors l.floors (take l.at l.floors);
  fits : list_all (λ f. fits_entry (out-Floor f).times) l.made ≡ true;
}
