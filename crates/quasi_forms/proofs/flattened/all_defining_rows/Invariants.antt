use Rattle.std.proofs.Common.{◌≡◌, true, take}
use Rattle.std.specs.Prelude.{flat_map}
use Rattle.std.specs.List.{list_all}
use Rattle.affine_rows.specs.Reduced.{fits_row}
use Rattle.quasi_forms.specs.Flattened.{defining_rows}
use Rattle.quasi_forms.proofs.flattened.all_defining_rows.Given as goal

abbrev pub invariant-loop-floor : goal.invariant-loop-floor
invariant-loop-floor l = record {
  rows : l.rows ≡ flat_map (defining_rows l.fn.width l.floors) (take l.floor-index l.floors);
  fits : list_all fits_row (flat_map (defining_rows l.fn.width l.floors) (take l.floor-index l.floors)) ≡ true;
}
