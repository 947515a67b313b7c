use Rattle.std.proofs.Common.{◌≡◌, ◌++◌, map, take}
use Rattle.to_subst.specs.Inlined.{variable}
use Rattle.to_subst.proofs.inlining.arguments.Given as goal

abbrev pub invariant-loop-var : goal.invariant-loop-var
invariant-loop-var l = l.made ≡ l.place ++ map variable (take l.var-index l.remaining)
