use Rattle.std.proofs.Common.{◌≡◌, ◌∙◌, ap, subst, IfOk}
use Rattle.std.proofs.lemmas.Result.{IfOk-weaker}
use Rattle.affine_rows.specs.declared.quasi.Quasi.{Quasi}
use Rattle.affine_rows.specs.Forms.{form_at}
use Rattle.quasi_forms.specs.Collected.{put_form}
use Rattle.quasi_forms.proofs.Placing.{put-at}
use Rattle.quasi_forms.proofs.put.put_all.Goals as goal

pub returns-clause-value : goal.returns-clause-value
returns-clause-value c =
    IfOk-weaker c.put_form.result (λ (f : Quasi). f ≡ put_form c.args.vars.now c.args.forms.now c.args.a.now) _
    (λ f is env. ap (form_at env) is ∙ put-at c.args.vars.now c.args.forms.now c.requires.differ c.requires.count c.args.a.now env)
    (subst (λ (a : Quasi). IfOk c.put_form.result (λ f. f ≡ put_form c.args.vars.now c.args.forms.now a)) c.quasi.ensures.same c.put_form.ensures.form)
