use Rattle.elimination.proofs.Tightening.{row_more}
use Rattle.elimination.proofs.bounding.tightest.Goals as goal

pub loop-row-preserved : goal.loop-row-preserved
loop-row-preserved c = record {
  bound = c.with_row-best.ensures.bound;
  respects = row_more c.args.side c.args.var c.args.point.now c.args.rows.now c.loop-row.row-index c.row-item.result c.loop-row.best c.with_row-best.result c.loop-row-test.true c.row-item.is c.loop-row.invariant.respects c.with_row-best.ensures.respects;
}
