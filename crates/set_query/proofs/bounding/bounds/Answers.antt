use Rattle.std.proofs.Common.{ap, ◌∙◌, List}
use Rattle.affine_rows.specs.declared.row.Row.{Row}
use Rattle.elimination.proofs.StageRows.{some_rows}
use Rattle.set_query.specs.Bounding.{bound_rows}
use Rattle.set_query.specs.declared.bounding.Side.TheVariants.{Above, Below}
use Rattle.set_query.proofs.Halving.{hold_there}
use Rattle.set_query.proofs.bounding.bounds.Goals as goal

pub bound_rows-requires : goal.bound_rows-requires
bound_rows-requires c = some_rows c.in_ok-last.last.width c.in_ok-last.last.rows c.as_slice.result.now c.as_slice.ensures c.in_ok-last.ensures.system.rows

pub bound_rows-requires-2 : goal.bound_rows-requires-2
bound_rows-requires-2 c = some_rows c.in_ok-last.last.width c.in_ok-last.last.rows c.as_slice-2.result.now c.as_slice-2.ensures c.in_ok-last.ensures.system.rows

pub returns-clause-lower_holds : goal.returns-clause-lower_holds
returns-clause-lower_holds c =
    hold_there Below c.args.var c.deref.result.now c.args.system.now.width c.args.system.now.rows c.in_ok-lower.lower c.in_ok-last.last.rows c.in_ok-last.ensures.rows
    (c.in_ok-lower.ensures ∙ ap (λ (rows : List Row). bound_rows Below c.args.var rows) c.as_slice.ensures)

pub returns-clause-upper_holds : goal.returns-clause-upper_holds
returns-clause-upper_holds c =
    hold_there Above c.args.var c.deref.result.now c.args.system.now.width c.args.system.now.rows c.in_ok-upper.upper c.in_ok-last.last.rows c.in_ok-last.ensures.rows
    (c.in_ok-upper.ensures ∙ ap (λ (rows : List Row). bound_rows Above c.args.var rows) c.as_slice-2.ensures)
