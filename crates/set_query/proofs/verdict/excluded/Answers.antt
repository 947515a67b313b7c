use Rattle.std.proofs.Common.{arith}
use Rattle.elimination.specs.declared.finding.Found.TheVariants as found
use Rattle.set_query.specs.Cases.{cases_of}
use Rattle.set_query.specs.declared.verdict.Verdict.TheVariants.{Excluded}
use Rattle.set_query.proofs.Opening.{all_closed, closed_more, finds, never_meet, open_verdict}
use Rattle.set_query.proofs.verdict.excluded.Goals as goal

pub returns-in-Point-clause-verdict : goal.returns-in-Point-clause-verdict
returns-in-Point-clause-verdict c =
    open_verdict c.args.pair.now.differ c.in_ok-systems.systems.items (cases_of c.args.pair.now.system c.args.pair.now.differ) c.loop-at.at c.index.result.now c.in-Point.point c.opened.result c.in_ok-systems.ensures.cases (omega (arith, c.loop-at-test.true)) c.index.ensures c.loop-at.invariant
    (finds c.index.result.now c.in_ok-point.field-0 (found.Point c.in-Point.point) c.in-Point.is c.in_ok-point.ensures.found c.in_ok-point.ensures.chosen c.in_ok-point.ensures.within) c.opened.ensures

pub loop-at-preserved : goal.loop-at-preserved
loop-at-preserved c =
    closed_more c.in_ok-systems.systems.items c.loop-at.at c.index.result.now (omega (arith, c.loop-at-test.true)) c.index.ensures c.loop-at.invariant
    (finds c.index.result.now c.in_ok-point.field-0 found.Empty c.in_default.is c.in_ok-point.ensures.found c.in_ok-point.ensures.chosen c.in_ok-point.ensures.within)

pub returns-clause-never : goal.returns-clause-never
returns-clause-never c =
    never_meet c.args.pair.now Excluded
    (all_closed c.in_ok-systems.systems.items (cases_of c.args.pair.now.system c.args.pair.now.differ) c.loop-at.at c.in_ok-systems.ensures.cases (omega (arith, c.loop-at-test.false)) c.loop-at.invariant)
