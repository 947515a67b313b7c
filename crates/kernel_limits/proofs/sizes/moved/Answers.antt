use Rattle.std.proofs.Common.{◌≡◌, ◌∙◌, sym, ap, subst, Err, FitsSigned}
use Rattle.std.specs.Int.{w64}
use Rattle.std.proofs.lemmas.Int.{to_z-of_z}
use Rattle.affine_rows.specs.declared.quasi.Quasi.{Quasi}
use Rattle.affine_rows.specs.Forms.{IsForm, affine}
use Rattle.quasi_forms.specs.declared.fault.FormFault.{FormFault}
use Rattle.quasi_forms.specs.Collected.{sum_form}
use Rattle.quasi_forms.proofs.Deciding.{form_fits, fits_not}
use Rattle.kernel_limits.specs.Sizes.{moved}
use Rattle.kernel_limits.proofs.sizes.moved.Goals as goal

pub returns-in-Ok-clause-fits : goal.returns-in-Ok-clause-fits
returns-in-Ok-clause-fits c =
    let times_fits : FitsSigned w64 c.args.times = c.ranges.times in
    let constant_fits : FitsSigned w64 c.args.constant = c.ranges.constant in
    let made : c.affine-constant.result ≡ affine c.args.constant c.new.result = simp to_z-of_z at c.affine-constant.ensures in
    let same : sum_form c.affine-constant.result c.args.times c.args.form.now ≡ moved c.args.constant c.args.times c.args.form.now = ap (λ (q : Quasi). sum_form q c.args.times c.args.form.now) (made ∙ ap (affine c.args.constant) c.new.ensures) in
    let small : IsForm (sum_form c.affine-constant.result c.args.times c.args.form.now) = simp to_z-of_z at c.in-Ok.ensures.small in
    sym (form_fits (moved c.args.constant c.args.times c.args.form.now) (subst IsForm same small))

pub returns-in-Err-Limit-clause-fits : goal.returns-in-Err-Limit-clause-fits
returns-in-Err-Limit-clause-fits c =
    let times_fits : FitsSigned w64 c.args.times = c.ranges.times in
    let constant_fits : FitsSigned w64 c.args.constant = c.ranges.constant in
    let made : c.affine-constant.result ≡ affine c.args.constant c.new.result = simp to_z-of_z at c.affine-constant.ensures in
    let same : sum_form c.affine-constant.result c.args.times c.args.form.now ≡ moved c.args.constant c.args.times c.args.form.now = ap (λ (q : Quasi). sum_form q c.args.times c.args.form.now) (made ∙ ap (affine c.args.constant) c.new.ensures) in
    let not : IsForm (sum_form c.affine-constant.result c.args.times c.args.form.now) → ⊥ = (simp to_z-of_z at c.in-Err-Limit.ensures.limit) (ap (λ (e : FormFault). Err e) c.in-Err-Limit.field-0-is) in
    sym (fits_not (moved c.args.constant c.args.times c.args.form.now) (λ form. not (subst IsForm (sym same) form)))
