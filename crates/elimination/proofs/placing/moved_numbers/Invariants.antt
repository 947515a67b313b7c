use Rattle.std.proofs.Common.{◌≡◌, take}
use Rattle.elimination.specs.Points.{AreSmall, moved_numbers}
use Rattle.elimination.proofs.placing.moved_numbers.Given as goal

abbrev pub invariant-loop-i : goal.invariant-loop-i
invariant-loop-i l = record {
  numbers : l.made.items ≡ take l.i (moved_numbers l.to.by l.var l.to.number l.at);
  small : AreSmall l.made.items;
}
