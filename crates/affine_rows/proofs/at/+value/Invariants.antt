use Rattle.std.proofs.Common.{◌≡◌, ◌≤◌, ◌+◌, ◌+ℤ◌, drop, map, sum, unsigned_abs}
use Rattle.affine_rows.specs.Forms.{floor_at, total}
use Rattle.affine_rows.specs.Reach.{reach_of_floor}
use Rattle.affine_rows.proofs.at.+value.Given as goal

abbrev pub invariant-floors_value-loop-floor : goal.invariant-floors_value-loop-floor
invariant-floors_value-loop-floor g l = record {
  value : l.sum +ℤ total (map (floor_at (g.V.Vars.number l.vars)) (drop l.floor-index l.floors)) ≡ total (map (floor_at (g.V.Vars.number l.vars)) l.floors);
  small : unsigned_abs l.sum + sum (map reach_of_floor (drop l.floor-index l.floors)) ≤ sum (map reach_of_floor l.floors);
}
