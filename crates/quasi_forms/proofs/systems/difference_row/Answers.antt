use Rattle.std.proofs.Common.{◌≡◌, ◌∙◌, ap, subst, true, false, IfOk}
use Rattle.affine_rows.specs.declared.row.Row.{Row}
use Rattle.affine_rows.specs.declared.quasi.Quasi.{Quasi}
use Rattle.affine_rows.specs.Reduced.{fits_row}
use Rattle.quasi_forms.specs.Flattened.{flat_row}
use Rattle.quasi_forms.specs.Systems.{form_row, less_row, difference_row, fits_difference}
use Rattle.quasi_forms.proofs.Errors.{on_ok}
use Rattle.quasi_forms.proofs.SystemParts.{difference_is, difference_fits, both_fail}
use Rattle.quasi_forms.proofs.systems.difference_row.Goals as goal

pub returns-clause-row : goal.returns-clause-row
returns-clause-row c =
    let is : less_row c.in_ok-form.form c.in_ok-less.less ≡ difference_row c.args.width c.args.floors.now c.args.row.now =
    difference_is c.args.width c.args.floors.now c.args.row.now c.in_ok-form.form c.in_ok-less.less (c.in_ok-form.ensures.row ∙ ap (form_row c.args.width c.args.floors.now c.args.row.now.equal) c.quasi.ensures.same) (c.in_ok-less.ensures.row ∙ ap (form_row c.args.width c.args.floors.now c.args.row.now.equal) c.quasi-2.ensures.same) in
    subst (λ (x : Row). IfOk c.less_row.result (λ r. r ≡ x)) is c.less_row.ensures.row

pub returns-clause-fits : goal.returns-clause-fits
returns-clause-fits c =
    let is : less_row c.in_ok-form.form c.in_ok-less.less ≡ difference_row c.args.width c.args.floors.now c.args.row.now =
    difference_is c.args.width c.args.floors.now c.args.row.now c.in_ok-form.form c.in_ok-less.less (c.in_ok-form.ensures.row ∙ ap (form_row c.args.width c.args.floors.now c.args.row.now.equal) c.quasi.ensures.same) (c.in_ok-less.ensures.row ∙ ap (form_row c.args.width c.args.floors.now c.args.row.now.equal) c.quasi-2.ensures.same) in
    on_ok c.less_row.result (fits_row (less_row c.in_ok-form.form c.in_ok-less.less) ≡ true) (fits_difference c.args.width c.args.floors.now c.args.row.now ≡ true)
    (λ h. difference_fits c.args.width c.args.floors.now c.args.row.now
    (subst (λ (q : Quasi). fits_row (flat_row c.args.width c.args.floors.now q) ≡ true) c.quasi.ensures.same c.in_ok-form.ensures.fits)
    (subst (λ (q : Quasi). fits_row (flat_row c.args.width c.args.floors.now q) ≡ true) c.quasi-2.ensures.same c.in_ok-less.ensures.fits)
    (subst (λ (x : Row). fits_row x ≡ true) is h))
    c.less_row.ensures.fits

pub returns-clause-limit : goal.returns-clause-limit
returns-clause-limit c = λ limit.
    let is : less_row c.in_ok-form.form c.in_ok-less.less ≡ difference_row c.args.width c.args.floors.now c.args.row.now =
    difference_is c.args.width c.args.floors.now c.args.row.now c.in_ok-form.form c.in_ok-less.less (c.in_ok-form.ensures.row ∙ ap (form_row c.args.width c.args.floors.now c.args.row.now.equal) c.quasi.ensures.same) (c.in_ok-less.ensures.row ∙ ap (form_row c.args.width c.args.floors.now c.args.row.now.equal) c.quasi-2.ensures.same) in
    both_fail c.args.width c.args.floors.now c.args.row.now (subst (λ (x : Row). fits_row x ≡ false) is (c.less_row.ensures.limit limit))
