use Rattle.std.proofs.Common.{◌≡◌, ◌∙◌, sym, ap, subst, true, false, Err, FitsSigned, List, ℕ, ℤ}
use Rattle.std.specs.Int.{w128}
use Rattle.std.specs.List.{list_all}
use Rattle.std.proofs.lemmas.Int.{to_z-of_z}
use Rattle.affine_rows.specs.Reduced.{fits_entry}
use Rattle.quasi_forms.specs.declared.fault.FormFault.{FormFault}
use Rattle.quasi_forms.specs.declared.fault.FormFault.TheVariants.{Limit}
use Rattle.quasi_forms.proofs.Errors.{err_same}
use Rattle.quasi_forms.proofs.FlatRows.{fits_over, wide_constant_over, wide_terms_over}
use Rattle.quasi_forms.proofs.flattened.row_over.Goals as goal

pub returns-in_default-clause-limit : goal.returns-in_default-clause-limit
returns-in_default-clause-limit c = λ limit.
    let fits : FitsSigned w128 c.args.constant = c.ranges.constant in
    let wide : false ≡ fits_entry c.args.constant = simp to_z-of_z at c.in_default.ensures.fits in
    wide_constant_over c.args.constant c.args.terms.items (sym wide)

pub returns-in_err-terms-2-clause-limit : goal.returns-in_err-terms-2-clause-limit
returns-in_err-terms-2-clause-limit c = λ limit.
    let same : c.in_err-terms-2.field-0.0 ≡ Limit = err_same c.from_residual-in_err-terms-2.result c.in_err-terms-2.field-0.0 Limit c.from_residual-in_err-terms-2.ensures.1 limit in
    let wide = c.in_err-terms-2.ensures.limit (ap (λ (e : FormFault). Err e) same) in
    wide_terms_over c.args.constant c.args.terms.items (subst (λ (ts : List (ℕ × ℤ)). list_all (λ t. fits_entry t.1) ts ≡ false) (c.deref.ensures.value ∙ c.in_ok-terms.ensures) wide)

pub returns-clause-fits : goal.returns-clause-fits
returns-clause-fits c =
    let fits : FitsSigned w128 c.args.constant = c.ranges.constant in
    let entry : true ≡ fits_entry c.args.constant = simp to_z-of_z at c.in-Some.ensures.fits in
    fits_over c.args.constant c.args.terms.items (sym entry) (subst (λ (ts : List (ℕ × ℤ)). list_all (λ t. fits_entry t.1) ts ≡ true) (c.deref.ensures.value ∙ c.in_ok-terms.ensures) c.in_ok-terms-2.ensures.fits)
