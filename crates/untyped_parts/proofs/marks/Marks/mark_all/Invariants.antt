use Rattle.std.proofs.Common.{◌≡◌, ◌++◌, take}
use Rattle.untyped_parts.proofs.marks.Marks.mark_all.Given as goal

abbrev pub invariant-vars : goal.invariant-vars
invariant-vars l = l.self ≡ l.fn.self ++ take l.var-index l.vars
