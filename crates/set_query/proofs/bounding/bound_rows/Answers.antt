use Rattle.std.proofs.Common.{arith}
use Rattle.affine_rows.specs.Reduced.{IsSomeRow}
use Rattle.elimination.proofs.Steps.{item_is}
use Rattle.set_query.specs.Bounding.{bound_rows}
use Rattle.set_query.proofs.Halving.{bound_all, bound_step}
use Rattle.set_query.proofs.bounding.bound_rows.Goals as goal

pub add_halves-requires : goal.add_halves-requires
add_halves-requires c = item_is IsSomeRow c.args.rows.now c.loop-row.row-index c.row-item.result c.requires c.loop-row-test.true c.row-item.is

pub loop-row-preserved : goal.loop-row-preserved
loop-row-preserved c = bound_step c.args.side c.args.var c.args.rows.now c.loop-row.row-index c.row-item.result c.loop-row.made c.add_halves.new.made (bound_rows c.args.side c.args.var c.args.rows.now) c.loop-row-test.true c.row-item.is c.in_ok-add_halves.ensures c.loop-row.invariant

pub returns : goal.returns
returns c = bound_all c.args.side c.args.var c.args.rows.now c.loop-row.row-index c.loop-row.made (bound_rows c.args.side c.args.var c.args.rows.now) (omega (arith, c.loop-row-test.false)) c.loop-row.invariant
