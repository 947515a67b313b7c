use Rattle.std.proofs.Common.{◌≡◌, map, take}
use Rattle.std.specs.Prelude.{flat_map}
use Rattle.std.specs.List.{AllByRecursion}
use Rattle.quasi_forms.specs.Limits.{floors_within}
use Rattle.quasi_forms.specs.Placed.{put_floor, PutsInner}
use Rattle.quasi_forms.proofs.put.+put.Given as goal

abbrev pub invariant-put_floors-loop-floor : goal.invariant-put_floors-loop-floor
invariant-put_floors-loop-floor l = record {
  made : l.made ≡ map (put_floor l.vars l.forms) (take l.floor-index l.floors);
  within : AllByRecursion (PutsInner l.vars l.forms) (flat_map floors_within (take l.floor-index l.floors));
}
