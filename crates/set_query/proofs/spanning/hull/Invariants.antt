use Rattle.std.proofs.Common.{◌≤◌, take}
use Rattle.elimination.specs.Shadows.{Each}
use Rattle.set_query.specs.Hulls.{AreEnds, IsRespected, IsSpanned}
use Rattle.set_query.proofs.spanning.hull.Given as goal

abbrev pub invariant-loop-at : goal.invariant-loop-at
invariant-loop-at l = record {
  ends : AreEnds l.var (take l.at l.systems) l.ends;
  within : Each (IsSpanned l.var) (take l.at l.systems);
  respected : Each (IsRespected l.var) (take l.at l.systems);
  one : 1 ≤ l.at;
}
