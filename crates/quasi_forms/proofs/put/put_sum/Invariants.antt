use Rattle.std.proofs.Common.{take}
use Rattle.quasi_forms.specs.Collected.{put_parts}
use Rattle.quasi_forms.specs.Combined.{IsSum}
use Rattle.quasi_forms.proofs.put.put_sum.Given as goal

abbrev pub invariant-loop-at : goal.invariant-loop-at
invariant-loop-at l = IsSum (take l.at (put_parts l.vars l.forms l.terms)) l.sum.constant l.sum.terms.items l.sum.floors.items
