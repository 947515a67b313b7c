use Rattle.elimination.specs.Fractions.{IsAsTight}
use Rattle.elimination.proofs.Tightening.{first_stays, not_so, other_comes, some_bound}
use Rattle.elimination.proofs.bounding.tighter.Goals as goal

pub returns-then-is_as_tight-clause-respects : goal.returns-then-is_as_tight-clause-respects
returns-then-is_as_tight-clause-respects c =
    let best = some_bound c.args.best c.in-Some.best c.in-Some.is c.requires.best in
    first_stays c.args.side c.args.best c.in-Some.best c.args.other c.in-Some.is best.positive (c.is_as_tight.ensures.0 c.if-is_as_tight.true)

pub returns-else-is_as_tight-clause-respects : goal.returns-else-is_as_tight-clause-respects
returns-else-is_as_tight-clause-respects c =
    other_comes c.args.side c.args.best c.in-Some.best c.args.other c.in-Some.is c.requires.other.positive (not_so c.is_as_tight.result (IsAsTight c.args.side c.in-Some.best c.args.other) c.is_as_tight.ensures c.if-is_as_tight.false)
