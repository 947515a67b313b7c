use Rattle.std.proofs.lemmas.Result.{err_from_is_err_and}
use Rattle.set_query.proofs.Implying.{by_first, by_second, implied_holds, second_fault}
use Rattle.set_query.proofs.implication.implied.Goals as goal

pub returns-then-not-row-clause-implied : goal.returns-then-not-row-clause-implied
returns-then-not-row-clause-implied c = by_first c.args.system.now.rows c.args.row.now c.in_ok-half_implied.field-0 c.if-not-branch.false c.if-not-row.true c.in_ok-half_implied.ensures.implied

pub returns-then-not-row-clause-holds : goal.returns-then-not-row-clause-holds
returns-then-not-row-clause-holds c =
    let is = by_first c.args.system.now.rows c.args.row.now c.in_ok-half_implied.field-0 c.if-not-branch.false c.if-not-row.true c.in_ok-half_implied.ensures.implied in
    (λ so. implied_holds c.args.system.now.rows c.args.row.now (is.0 so))

pub returns-clause-implied : goal.returns-clause-implied
returns-clause-implied c = by_second c.args.system.now.rows c.args.row.now c.in_ok-half_implied.field-0 c.in_ok-second.second c.if-not-branch.false c.if-not-row.false c.in_ok-half_implied.ensures.implied c.in_ok-second.ensures.implied

pub returns-clause-holds : goal.returns-clause-holds
returns-clause-holds c =
    let is = by_second c.args.system.now.rows c.args.row.now c.in_ok-half_implied.field-0 c.in_ok-second.second c.if-not-branch.false c.if-not-row.false c.in_ok-half_implied.ensures.implied c.in_ok-second.ensures.implied in
    (λ so. implied_holds c.args.system.now.rows c.args.row.now (is.0 so))

pub returns-in_err-second-clause-fault : goal.returns-in_err-second-clause-fault
returns-in_err-second-clause-fault c =
    let p = err_from_is_err_and c.from_residual-in_err-second.result c.from_residual-in_err-second.ensures.1 in
    rw (p.1, p.2)
    (second_fault c.args.system.now c.args.row.now c.in_ok-half_implied.field-0 c.in_err-second.field-0.0 c.if-not-branch.false c.if-not-row.false c.in_ok-half_implied.ensures.implied c.in_ok-half_implied.ensures.within c.in_err-second.ensures.fault)
