use Rattle.elimination.proofs.StageRows.{some_rows}
use Rattle.set_query.specs.declared.bounding.Side.TheVariants.{Above, Below}
use Rattle.set_query.proofs.Hulls.{end_of_rows}
use Rattle.set_query.proofs.Inside.{respected}
use Rattle.set_query.proofs.spanning.ends_of.Goals as goal

pub bound_rows-requires : goal.bound_rows-requires
bound_rows-requires c = some_rows c.in_ok-last.last.width c.in_ok-last.last.rows c.as_slice.result.now c.as_slice.ensures c.in_ok-last.ensures.system.rows

pub bound_rows-requires-2 : goal.bound_rows-requires-2
bound_rows-requires-2 c = some_rows c.in_ok-last.last.width c.in_ok-last.last.rows c.as_slice-2.result.now c.as_slice-2.ensures c.in_ok-last.ensures.system.rows

pub returns-clause-ends : goal.returns-clause-ends
returns-clause-ends c =
    let below = end_of_rows Below c.args.var c.args.system.now c.in_ok-last.last.width c.in_ok-last.last.rows c.as_slice.result.now c.in_ok-lower.lower c.as_slice-3.result.now c.least_constant.result c.in_ok-last.ensures.rows c.in_ok-last.ensures.system.rows c.as_slice.ensures c.in_ok-lower.ensures c.as_slice-3.ensures c.least_constant.ensures in
    let above = end_of_rows Above c.args.var c.args.system.now c.in_ok-last.last.width c.in_ok-last.last.rows c.as_slice-2.result.now c.in_ok-upper.upper c.as_slice-4.result.now c.least_constant-2.result c.in_ok-last.ensures.rows c.in_ok-last.ensures.system.rows c.as_slice-2.ensures c.in_ok-upper.ensures c.as_slice-4.ensures c.least_constant-2.ensures in
    record { below = below.0; above = above.0; below_small = below.1; above_small = above.1 }

pub returns-clause-respected : goal.returns-clause-respected
returns-clause-respected c = respected c.args.var c.args.system.now c.in_ok-last.last.width c.in_ok-last.last.rows c.in_ok-last.ensures.rows c.in_ok-last.ensures.system.rows c.in_ok-last.ensures.width
