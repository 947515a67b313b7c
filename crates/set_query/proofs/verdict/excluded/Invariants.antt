use Rattle.std.proofs.Common.{take}
use Rattle.elimination.specs.declared.finding.Found.TheVariants as found
use Rattle.elimination.specs.Shadows.{Each}
use Rattle.set_query.specs.Verdicts.{Finds}
use Rattle.set_query.proofs.verdict.excluded.Given as goal

abbrev pub invariant-loop-at : goal.invariant-loop-at
invariant-loop-at l = Each (Finds found.Empty) (take l.at l.systems.items)
