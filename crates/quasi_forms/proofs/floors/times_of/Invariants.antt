use Rattle.std.proofs.Common.{◌≡◌, ◌≤◌, take, sum_by, unsigned_abs}
use Rattle.affine_rows.specs.declared.quasi.Floor.{out-Floor}
use Rattle.quasi_forms.specs.Collected.{times_of}
use Rattle.quasi_forms.proofs.floors.times_of.Given as goal

abbrev pub invariant-loop-other : goal.invariant-loop-other
invariant-loop-other l = record {
  value : l.sum ≡ times_of (take l.other-index l.floors) l.floor;
  small : unsigned_abs l.sum ≤ sum_by (λ f. unsigned_abs (out-Floor f).times) (take l.other-index l.floors);
}
