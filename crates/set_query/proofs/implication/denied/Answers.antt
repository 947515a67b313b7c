use Rattle.std.proofs.Common.{sym, ap, ◌∙◌, pos, Err, FitsSigned, to_z-of_z}
use mir.Syntax.{w64}
use Rattle.affine_rows.specs.declared.row.Row.{Row}
use Rattle.affine_rows.specs.Reduced.{fits_row, mixed_row, reduced_row}
use Rattle.set_query.specs.Implications.{denied}
use Rattle.set_query.proofs.Implying.{denied_fault}
use Rattle.set_query.proofs.implication.denied.Goals as goal

pub returns-in-Ok-clause-value : goal.returns-in-Ok-clause-value
unfolding denied
returns-in-Ok-clause-value c =
    let f : FitsSigned w64 c.args.times = c.ranges.times in
    let made = simp to_z-of_z at c.in-Ok.ensures.value in
    made ∙ ap (λ (n : Row). reduced_row (mixed_row c.args.times c.args.row.now (pos 1) n)) c.never.ensures

pub returns-in-Ok-clause-fits : goal.returns-in-Ok-clause-fits
unfolding denied
returns-in-Ok-clause-fits c =
    let f : FitsSigned w64 c.args.times = c.ranges.times in
    let made = simp to_z-of_z at c.in-Ok.ensures.fits in
    ap (λ (n : Row). fits_row (reduced_row (mixed_row c.args.times c.args.row.now (pos 1) n))) (sym c.never.ensures) ∙ made

pub returns-clause-fault : goal.returns-clause-fault
returns-clause-fault c =
    let f : FitsSigned w64 c.args.times = c.ranges.times in
    let wide = simp to_z-of_z at c.in-Err.ensures.wide in
    denied_fault c.args.times c.args.row.now c.in-Err.fault c.wide_denial.result
    (λ e. ap (λ (n : Row). fits_row (reduced_row (mixed_row c.args.times c.args.row.now (pos 1) n))) (sym c.never.ensures) ∙ wide (ap Err e)) c.wide_denial.ensures
