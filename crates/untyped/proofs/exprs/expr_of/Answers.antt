use Rattle.std.proofs.Common.{arith}
use Rattle.untyped.proofs.MadeDepths.{expr_kept}
use Rattle.untyped.proofs.exprs.expr_of.Goals as goal

pub returns-clause-shallow : goal.returns-clause-shallow
returns-clause-shallow g c small is = (let deep = c.value_of.ensures.deep is in omega (arith, deep, small, expr_kept c.args.tree.now))
