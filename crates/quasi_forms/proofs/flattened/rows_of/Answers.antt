use Rattle.std.proofs.Common.{◌≡◌, ◌∙◌, ◌+◌, ◌*ℤ◌, pos, sym, ap, subst, rules, length, true, false, All, Err, FitsSigned, List, ℕ}
use Rattle.std.specs.Int.{w64, w128}
use Rattle.std.specs.List.{list_all}
use Rattle.std.proofs.lemmas.Int.{to_z-of_z}
use Rattle.affine_rows.specs.declared.row.Row.{Row}
use Rattle.affine_rows.specs.declared.quasi.Quasi.{Quasi, out-Quasi}
use Rattle.affine_rows.specs.declared.quasi.Floor.{Floor}
use Rattle.affine_rows.specs.Rows.{IsRow}
use Rattle.affine_rows.specs.Forms.{IsForm}
use Rattle.affine_rows.specs.Reduced.{fits_row}
use Rattle.quasi_forms.specs.declared.fault.FormFault.{FormFault}
use Rattle.quasi_forms.specs.declared.fault.FormFault.TheVariants.{Limit}
use Rattle.quasi_forms.specs.Collected.{IsWide}
use Rattle.quasi_forms.specs.Limits.{floors_of, floor_count}
use Rattle.quasi_forms.specs.Flattened.{row_over, flat_row, DefineFloors, HasValueOf}
use Rattle.quasi_forms.proofs.Errors.{err_same}
use Rattle.quasi_forms.proofs.FlatRows.{flat_small, flat_row_is, all_is, rows_fit-is, rows_fit-row, rows_fit-defining}
use Rattle.quasi_forms.proofs.FloorVariables.{define-floors, has-value}
use Rattle.quasi_forms.proofs.FloorWidths.{wide_of, form_row, floor_rows, extended}
use Rattle.quasi_forms.proofs.flattened.rows_of.Goals as goal

pub row_over-requires : goal.row_over-requires
row_over-requires c =
    let p : Quasi = c.quasi-quasi.result.now in
    let h : IsForm p = subst IsForm (sym c.quasi-quasi.ensures.same) c.quasi-quasi.ensures.form in
    flat_small c.args.width c.deref.result.now p c.in_ok-terms.terms.items h c.in_ok-terms.ensures

pub returns-in_err-row-clause-limit : goal.returns-in_err-row-clause-limit
returns-in_err-row-clause-limit c = λ limit.
    let q : Quasi = c.args.form.now in
    let p : Quasi = c.quasi-quasi.result.now in
    let same : p ≡ q = c.quasi-quasi.ensures.same in
    let floors : c.deref.result.now ≡ floors_of q = c.deref.ensures.value ∙ (c.in_ok-floors.ensures ∙ ap (λ (r : Quasi). floors_of r) same) in
    let p_fits : FitsSigned w64 (out-Quasi p).constant = search rules in
    let k_fits : FitsSigned w128 c.product.result = search rules in
    let k : c.product.result ≡ pos 1 *ℤ (out-Quasi p).constant = simp to_z-of_z at c.product.ensures.value in
    let is : row_over c.product.result c.in_ok-terms.terms.items ≡ flat_row c.args.width (floors_of q) q = flat_row_is q p c.args.width (floors_of q) c.deref.result.now c.product.result c.in_ok-terms.terms.items same floors k c.in_ok-terms.ensures in
    let fault : c.in_err-row.field-0.0 ≡ Limit = err_same c.from_residual-in_err-row.result c.in_err-row.field-0.0 Limit c.from_residual-in_err-row.ensures.1 limit in
    let wide : fits_row (row_over c.product.result c.in_ok-terms.terms.items) ≡ false = simp to_z-of_z at (c.in_err-row.ensures.limit (ap (λ (e : FormFault). Err e) fault)) in
    rows_fit-row c.args.width q (subst (λ (r : Row). fits_row r ≡ false) is wide)

pub all_defining_rows-requires-clause-floors : goal.all_defining_rows-requires-clause-floors
all_defining_rows-requires-clause-floors c =
    let floors_again : c.deref-2.result.now ≡ floors_of c.args.form.now = c.deref-2.ensures.value ∙ (c.in_ok-floors.ensures ∙ ap (λ (r : Quasi). floors_of r) c.quasi-quasi.ensures.same) in
    subst (All IsWide) (sym floors_again) (wide_of c.args.form.now c.quasi-quasi.ensures.form)

pub returns-in_err-defining-clause-limit : goal.returns-in_err-defining-clause-limit
returns-in_err-defining-clause-limit c = λ limit.
    let floors_again : c.deref-2.result.now ≡ floors_of c.args.form.now = c.deref-2.ensures.value ∙ (c.in_ok-floors.ensures ∙ ap (λ (r : Quasi). floors_of r) c.quasi-quasi.ensures.same) in
    let fault : c.in_err-defining.field-0.0 ≡ Limit = err_same c.from_residual-in_err-defining.result c.in_err-defining.field-0.0 Limit c.from_residual-in_err-defining.ensures.1 limit in
    rows_fit-defining c.args.width c.args.form.now
    (subst (λ (rows : List Row). list_all fits_row rows ≡ false) (all_is c.args.width c.args.form.now c.deref-2.result.now floors_again) (c.in_err-defining.ensures.limit (ap (λ (e : FormFault). Err e) fault)))

pub returns-clause-form : goal.returns-clause-form
returns-clause-form c =
    let q : Quasi = c.args.form.now in
    let p : Quasi = c.quasi-quasi.result.now in
    let same : p ≡ q = c.quasi-quasi.ensures.same in
    let floors : c.deref.result.now ≡ floors_of q = c.deref.ensures.value ∙ (c.in_ok-floors.ensures ∙ ap (λ (r : Quasi). floors_of r) same) in
    let p_fits : FitsSigned w64 (out-Quasi p).constant = search rules in
    let k_fits : FitsSigned w128 c.product.result = search rules in
    let k : c.product.result ≡ pos 1 *ℤ (out-Quasi p).constant = simp to_z-of_z at c.product.ensures.value in
    let is : row_over c.product.result c.in_ok-terms.terms.items ≡ flat_row c.args.width (floors_of q) q = flat_row_is q p c.args.width (floors_of q) c.deref.result.now c.product.result c.in_ok-terms.terms.items same floors k c.in_ok-terms.ensures in
    let made : c.in_ok-row.row ≡ row_over c.product.result c.in_ok-terms.terms.items = simp to_z-of_z at c.in_ok-row.ensures.row in
    made ∙ is

pub returns-clause-defining : goal.returns-clause-defining
returns-clause-defining c =
    let floors_again : c.deref-2.result.now ≡ floors_of c.args.form.now = c.deref-2.ensures.value ∙ (c.in_ok-floors.ensures ∙ ap (λ (r : Quasi). floors_of r) c.quasi-quasi.ensures.same) in
    c.in_ok-defining.ensures.rows ∙ all_is c.args.width c.args.form.now c.deref-2.result.now floors_again

pub returns-clause-fits : goal.returns-clause-fits
returns-clause-fits c =
    let q : Quasi = c.args.form.now in
    let p : Quasi = c.quasi-quasi.result.now in
    let same : p ≡ q = c.quasi-quasi.ensures.same in
    let floors : c.deref.result.now ≡ floors_of q = c.deref.ensures.value ∙ (c.in_ok-floors.ensures ∙ ap (λ (r : Quasi). floors_of r) same) in
    let p_fits : FitsSigned w64 (out-Quasi p).constant = search rules in
    let k_fits : FitsSigned w128 c.product.result = search rules in
    let k : c.product.result ≡ pos 1 *ℤ (out-Quasi p).constant = simp to_z-of_z at c.product.ensures.value in
    let is : row_over c.product.result c.in_ok-terms.terms.items ≡ flat_row c.args.width (floors_of q) q = flat_row_is q p c.args.width (floors_of q) c.deref.result.now c.product.result c.in_ok-terms.terms.items same floors k c.in_ok-terms.ensures in
    let floors_again : c.deref-2.result.now ≡ floors_of c.args.form.now = c.deref-2.ensures.value ∙ (c.in_ok-floors.ensures ∙ ap (λ (r : Quasi). floors_of r) c.quasi-quasi.ensures.same) in
    let fits : fits_row (row_over c.product.result c.in_ok-terms.terms.items) ≡ true = simp to_z-of_z at c.in_ok-row.ensures.fits in
    rows_fit-is c.args.width q (subst (λ (r : Row). fits_row r ≡ true) is fits) (subst (λ (rows : List Row). list_all fits_row rows ≡ true) (all_is c.args.width q c.deref-2.result.now floors_again) c.in_ok-defining.ensures.fits)

pub returns-clause-floors : goal.returns-clause-floors
returns-clause-floors c = subst (DefineFloors c.args.width c.args.form.now) (sym (returns-clause-defining c)) (define-floors c.args.width c.args.form.now c.quasi-quasi.ensures.form)

pub returns-clause-value : goal.returns-clause-value
returns-clause-value c = subst (HasValueOf c.args.width c.args.form.now) (sym (returns-clause-form c)) (has-value c.args.width c.args.form.now)

pub returns-clause-extended : goal.returns-clause-extended
returns-clause-extended c = extended c.args.width c.args.form.now c.requires.below

pub returns-clause-row : goal.returns-clause-row
returns-clause-row c =
    let count : c.len.result ≡ length c.in_ok-floors.floors.items = search rules in
    let width : c.len.result ≡ floor_count c.args.form.now = count ∙ ap (λ (fs : List Floor). length fs) (c.in_ok-floors.ensures ∙ ap (λ (r : Quasi). floors_of r) c.quasi-quasi.ensures.same) in
    subst (λ (n : ℕ). IsRow (c.args.width + n) c.in_ok-row.row) (sym width)
    (subst (IsRow (c.args.width + floor_count c.args.form.now)) (sym (returns-clause-form c)) (form_row c.args.width c.args.form.now c.requires.below (returns-clause-fits c)))

pub returns-clause-rows : goal.returns-clause-rows
returns-clause-rows c =
    let count : c.len.result ≡ length c.in_ok-floors.floors.items = search rules in
    let width : c.len.result ≡ floor_count c.args.form.now = count ∙ ap (λ (fs : List Floor). length fs) (c.in_ok-floors.ensures ∙ ap (λ (r : Quasi). floors_of r) c.quasi-quasi.ensures.same) in
    subst (λ (n : ℕ). All (IsRow (c.args.width + n)) c.in_ok-defining.defining) (sym width)
    (subst (All (IsRow (c.args.width + floor_count c.args.form.now))) (sym (returns-clause-defining c)) (floor_rows c.args.width c.args.form.now c.requires.below (returns-clause-fits c)))
