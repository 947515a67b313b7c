use Rattle.std.proofs.Common.{◌≡◌, ap, Err}
use Rattle.quasi_forms.specs.declared.fault.FormFault.{FormFault}
use Rattle.quasi_forms.specs.declared.fault.FormFault.TheVariants.{Limit}
use Rattle.quasi_forms.proofs.Errors.{err_same}
use Rattle.quasi_forms.proofs.FlatRows.{rows_added, rows_within, lower_fails, upper_fails}
use Rattle.quasi_forms.proofs.flattened.add_defining_rows.Goals as goal

pub returns-in_err-lower_row-clause-limit : goal.returns-in_err-lower_row-clause-limit
returns-in_err-lower_row-clause-limit c = λ limit.
    let same : c.in_err-lower_row.field-0.0 ≡ Limit = err_same c.from_residual.result c.in_err-lower_row.field-0.0 Limit c.from_residual.ensures.1 limit in
    lower_fails c.args.width c.args.floors.now c.args.floor.now (c.in_err-lower_row.ensures.limit (ap (λ (e : FormFault). Err e) same))

pub returns-in_err-upper_row-clause-limit : goal.returns-in_err-upper_row-clause-limit
returns-in_err-upper_row-clause-limit c = λ limit.
    let same : c.in_err-upper_row.field-0.0 ≡ Limit = err_same c.from_residual-in_err-upper_row.result c.in_err-upper_row.field-0.0 Limit c.from_residual-in_err-upper_row.ensures.1 limit in
    upper_fails c.args.width c.args.floors.now c.args.floor.now (c.in_err-upper_row.ensures.limit (ap (λ (e : FormFault). Err e) same))

pub returns-clause-rows : goal.returns-clause-rows
returns-clause-rows c =
    rows_added c.args.width c.args.floors.now c.args.floor.now c.args.rows.now c.push.new.self c.push-2.new.self c.in_ok-lower_row.field-0 c.in_ok-upper_row.field-0
    c.in_ok-lower_row.ensures.row c.in_ok-upper_row.ensures.row c.in_ok-push.ensures.ok c.in_ok-push-2.ensures.ok

pub returns-clause-fits : goal.returns-clause-fits
returns-clause-fits c = rows_within c.args.width c.args.floors.now c.args.floor.now c.in_ok-lower_row.ensures.fits c.in_ok-upper_row.ensures.fits
