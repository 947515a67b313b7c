use Rattle.affine_rows.specs.Reduced.{IsSomeRow}
use Rattle.elimination.proofs.Steps.{item_is}
use Rattle.elimination.proofs.rows.below_count.Goals as goal

pub factor_in-requires : goal.factor_in-requires
factor_in-requires c = item_is IsSomeRow c.args.rows.now c.loop-row.row-index c.row-item.result c.requires c.loop-row-test.true c.row-item.is
