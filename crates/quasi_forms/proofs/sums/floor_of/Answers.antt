use Rattle.std.proofs.Common.{◌≡◌, ◌∙◌, ap, FitsSigned}
use Rattle.std.specs.Int.{w64}
use Rattle.std.proofs.lemmas.Int.{to_z-of_z}
use Rattle.std.proofs.lemmas.Result.{IfOk-weaker}
use Rattle.affine_rows.specs.declared.quasi.Quasi.{Quasi}
use Rattle.affine_rows.specs.Forms.{form_at}
use Rattle.quasi_forms.specs.Collected.{floor_form}
use Rattle.quasi_forms.proofs.FormValues.{floor-at}
use Rattle.quasi_forms.proofs.sums.floor_of.Goals as goal

pub returns-clause-value : goal.returns-clause-value
returns-clause-value c =
    let fits : FitsSigned w64 c.args.by = c.ranges.by in
    let whole : c.in_ok-small_floor_of.field-0 ≡ floor_form c.args.a.now c.args.by = simp to_z-of_z at c.in_ok-small_floor_of.ensures.form in
    IfOk-weaker c.limited.result (λ (f : Quasi). f ≡ c.in_ok-small_floor_of.field-0) _ (λ f is env. ap (form_at env) (is ∙ whole) ∙ floor-at env c.args.a.now c.args.by) c.limited.ensures.form
