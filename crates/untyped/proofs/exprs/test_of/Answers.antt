use Rattle.std.proofs.Common.{arith}
use Rattle.untyped.proofs.MadeDepths.{test_kept_in}
use Rattle.untyped.proofs.exprs.test_of.Goals as goal

pub returns-clause-shallow : goal.returns-clause-shallow
returns-clause-shallow g c small is = (let deep = c.truth_of.ensures.deep is in omega (arith, deep, small, test_kept_in c.args.tree.now))
