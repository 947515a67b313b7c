use Rattle.std.proofs.Common.{◌≡◌, ◌∙◌, ap, FitsSigned}
use Rattle.std.specs.Int.{w64}
use Rattle.std.proofs.lemmas.Int.{to_z-of_z}
use Rattle.std.proofs.lemmas.Result.{IfOk-weaker}
use Rattle.affine_rows.specs.declared.quasi.Quasi.{Quasi}
use Rattle.affine_rows.specs.Forms.{form_at}
use Rattle.quasi_forms.specs.Collected.{sum_form}
use Rattle.quasi_forms.proofs.FormValues.{sum-at}
use Rattle.quasi_forms.proofs.sums.sum_of.Goals as goal

pub returns-clause-value : goal.returns-clause-value
returns-clause-value c =
    let fits : FitsSigned w64 c.args.times = c.ranges.times in
    let whole : c.in_ok-small_sum_of.field-0 ≡ sum_form c.args.a.now c.args.times c.args.b.now = simp to_z-of_z at c.in_ok-small_sum_of.ensures.form in
    IfOk-weaker c.limited.result (λ (f : Quasi). f ≡ c.in_ok-small_sum_of.field-0) _ (λ f is env. ap (form_at env) (is ∙ whole) ∙ sum-at env c.args.a.now c.args.times c.args.b.now) c.limited.ensures.form
