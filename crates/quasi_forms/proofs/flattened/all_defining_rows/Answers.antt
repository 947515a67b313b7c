use Rattle.std.proofs.Common.{◌≡◌, ap, Err}
use Rattle.quasi_forms.specs.declared.fault.FormFault.{FormFault}
use Rattle.quasi_forms.specs.declared.fault.FormFault.TheVariants.{Limit}
use Rattle.quasi_forms.specs.Flattened.{defining_rows}
use Rattle.quasi_forms.proofs.Errors.{err_same}
use Rattle.quasi_forms.proofs.FlatRows.{flat_fails}
use Rattle.quasi_forms.proofs.flattened.all_defining_rows.Goals as goal

pub returns-in_err-add_defining_rows-clause-limit : goal.returns-in_err-add_defining_rows-clause-limit
returns-in_err-add_defining_rows-clause-limit c = λ limit.
    let same : c.in_err-add_defining_rows.field-0.0 ≡ Limit = err_same c.from_residual.result c.in_err-add_defining_rows.field-0.0 Limit c.from_residual.ensures.1 limit in
    flat_fails (defining_rows c.args.width c.args.floors.now) c.args.floors.now c.loop-floor.floor-index c.floor-item.result c.loop-floor-test.true c.floor-item.is (c.in_err-add_defining_rows.ensures.limit (ap (λ (e : FormFault). Err e) same))
