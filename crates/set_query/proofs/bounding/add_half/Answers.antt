use Rattle.std.proofs.Common.{sym, ◌∙◌}
use Rattle.set_query.proofs.Halving.{pushed, skipped}
use Rattle.set_query.proofs.bounding.add_half.Goals as goal

pub returns-in_ok-push : goal.returns-in_ok-push
returns-in_ok-push c = pushed c.args.side c.args.var c.args.half c.tighten.new.row c.args.made.now c.push.new.self (sym c.bounds_on.ensures ∙ c.if-bounds_on.true) c.tighten.ensures.value c.in_ok-push.ensures.ok

pub returns-else-bounds_on : goal.returns-else-bounds_on
returns-else-bounds_on c = skipped c.args.side c.args.var c.args.half c.args.made.now (sym c.bounds_on.ensures ∙ c.if-bounds_on.false)
