use Rattle.std.proofs.Common.{◌≡◌, ◌++◌, drop}
use Rattle.set_query.specs.Cases.{cases_among}
use Rattle.set_query.proofs.splitting.cases_among.Given as goal

abbrev pub invariant-loop-x : goal.invariant-loop-x
invariant-loop-x l = l.made.items ++ cases_among l.shared (drop l.x-index l.pairs) ≡ cases_among l.system l.pairs
