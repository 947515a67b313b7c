use Rattle.std.proofs.Common.{FitsSigned, to_z-of_z}
use Rattle.std.proofs.lemmas.Result.{err_from_is_err_and}
use mir.Syntax.{w64}
use Rattle.set_query.proofs.Implying.{asked_IsSystem, asked_is, half_fault, half_is}
use Rattle.set_query.proofs.implication.half_implied.Goals as goal

pub find_point-requires : goal.find_point-requires
find_point-requires c =
    let f : FitsSigned w64 c.args.times = c.ranges.times in
    let made = simp to_z-of_z at c.in_ok-denied.ensures.value in
    let fits = simp to_z-of_z at c.in_ok-denied.ensures.fits in
    asked_IsSystem c.args.system.now c.in_ok-asked.asked c.args.times c.args.row.now c.in_ok-denied.denied c.requires.system c.requires.row made fits c.in_ok-asked.ensures

pub returns-in_err-find_point-clause-fault : goal.returns-in_err-find_point-clause-fault
returns-in_err-find_point-clause-fault c =
    let f : FitsSigned w64 c.args.times = c.ranges.times in
    let made = simp to_z-of_z at c.in_ok-denied.ensures.value in
    let fits = simp to_z-of_z at c.in_ok-denied.ensures.fits in
    let p = err_from_is_err_and c.from_residual-in_err-find_point.result c.from_residual-in_err-find_point.ensures.1 in
    rw (p.1, p.2)
    (half_fault c.args.system.now c.in_ok-asked.asked c.args.times c.args.row.now c.in_err-find_point.field-0.0
    (asked_is c.args.system.now c.in_ok-asked.asked c.args.times c.args.row.now c.in_ok-denied.denied made c.in_ok-asked.ensures) fits c.in_err-find_point.ensures.fault)

pub returns-clause-implied : goal.returns-clause-implied
returns-clause-implied c =
    let f : FitsSigned w64 c.args.times = c.ranges.times in
    let made = simp to_z-of_z at c.in_ok-denied.ensures.value in
    half_is c.args.system.now c.in_ok-asked.asked c.args.times c.args.row.now c.in_ok-find_point.field-0 c.is_empty.result
    (asked_is c.args.system.now c.in_ok-asked.asked c.args.times c.args.row.now c.in_ok-denied.denied made c.in_ok-asked.ensures) c.in_ok-find_point.ensures.found c.is_empty.ensures
