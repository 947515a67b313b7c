use Rattle.std.proofs.Common.{◌≡◌, ◌*ℤ◌, pos, subst, rules, true, false, Err, IfOk, OnOk, FitsSigned}
use Rattle.std.specs.Int.{w64, w128}
use Rattle.std.proofs.lemmas.Int.{to_z-of_z}
use Rattle.affine_rows.specs.declared.row.Row.{Row}
use Rattle.affine_rows.specs.declared.quasi.Quasi.{out-Quasi}
use Rattle.affine_rows.specs.Reduced.{fits_row}
use Rattle.quasi_forms.specs.declared.fault.FormFault.TheVariants.{Limit}
use Rattle.quasi_forms.proofs.FlatRows.{lower_is}
use Rattle.quasi_forms.proofs.flattened.lower_row.Goals as goal

pub returns-clause-row : goal.returns-clause-row
returns-clause-row c =
    let k_fits : FitsSigned w128 c.product.result = search rules in
    let i_fits : FitsSigned w64 (out-Quasi c.inner.result.now).constant = search rules in
    let k : c.product.result ≡ pos 1 *ℤ (out-Quasi c.inner.result.now).constant = simp to_z-of_z at c.product.ensures.value in
    subst (λ (x : Row). IfOk c.row_over.result (λ r. r ≡ x)) (lower_is c.args.width c.args.floors.now c.args.floor.now c.inner.result.now c.product.result c.in_ok-terms.terms.items c.inner.ensures k c.in_ok-terms.ensures.terms) (simp to_z-of_z at c.row_over.ensures.row)

pub returns-clause-fits : goal.returns-clause-fits
returns-clause-fits c =
    let k_fits : FitsSigned w128 c.product.result = search rules in
    let i_fits : FitsSigned w64 (out-Quasi c.inner.result.now).constant = search rules in
    let k : c.product.result ≡ pos 1 *ℤ (out-Quasi c.inner.result.now).constant = simp to_z-of_z at c.product.ensures.value in
    subst (λ (x : Row). OnOk c.row_over.result (fits_row x ≡ true)) (lower_is c.args.width c.args.floors.now c.args.floor.now c.inner.result.now c.product.result c.in_ok-terms.terms.items c.inner.ensures k c.in_ok-terms.ensures.terms) (simp to_z-of_z at c.row_over.ensures.fits)

pub returns-clause-limit : goal.returns-clause-limit
returns-clause-limit c =
    let k_fits : FitsSigned w128 c.product.result = search rules in
    let i_fits : FitsSigned w64 (out-Quasi c.inner.result.now).constant = search rules in
    let k : c.product.result ≡ pos 1 *ℤ (out-Quasi c.inner.result.now).constant = simp to_z-of_z at c.product.ensures.value in
    subst (λ (x : Row). c.row_over.result ≡ Err Limit → fits_row x ≡ false) (lower_is c.args.width c.args.floors.now c.args.floor.now c.inner.result.now c.product.result c.in_ok-terms.terms.items c.inner.ensures k c.in_ok-terms.ensures.terms) (simp to_z-of_z at c.row_over.ensures.limit)
