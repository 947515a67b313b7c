use Rattle.std.proofs.Common.{◌∙◌, sym}
use Rattle.elimination.specs.Stages.{determines}
use Rattle.affine_rows.specs.Reduced.{IsSomeRow}
use Rattle.elimination.proofs.Steps.{item_is, first_found, none_found}
use Rattle.elimination.proofs.rows.first_equality.Goals as goal

pub determines-requires : goal.determines-requires
determines-requires c = item_is IsSomeRow c.args.rows.now c.loop-at.at c.index-rows-at.result c.requires c.loop-at-test.true c.index-rows-at.is

pub returns-then-determines : goal.returns-then-determines
returns-then-determines c = first_found (determines c.args.var) c.args.rows.now c.loop-at.at c.index-rows-at.result c.loop-at-test.true c.index-rows-at.is (sym c.determines.ensures ∙ c.if-determines.true) c.loop-at.invariant

pub returns : goal.returns
returns c = none_found (determines c.args.var) c.args.rows.now c.loop-at.at c.loop-at-test.false c.loop-at.invariant
