use Rattle.std.proofs.Common.{◌≡◌, ◌++◌, drop}
use Rattle.untyped_parts.specs.Mentions.{without}
use Rattle.untyped_parts.proofs.mentions.add_unmarked.Given as goal

abbrev pub invariant-loop-var : goal.invariant-loop-var
invariant-loop-var l = l.vars.items ++ without l.marks (drop l.var-index l.found) ≡ l.initial.vars.items ++ without l.marks l.found
