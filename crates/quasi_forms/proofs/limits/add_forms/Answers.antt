use Rattle.std.proofs.lemmas.List.Elements.{All-more}
use Rattle.std.proofs.Common.{subst}
use Rattle.affine_rows.specs.Forms.{IsForm}
use Rattle.quasi_forms.proofs.FormLimits.{floors_next}
use Rattle.quasi_forms.proofs.limits.add_forms.Goals as goal

pub loop-form-preserved : goal.loop-form-preserved
loop-form-preserved c = record {
  floors = floors_next c.args.forms.now c.loop-form.form-index c.form-item.result c.args.made.now.items c.loop-form.made.items c.add_form.new.made.items c.loop-form-test.true c.form-item.is c.loop-form.invariant.floors c.in_ok-add_form.ensures.floors;
  forms = All-more IsForm c.args.forms.now c.loop-form.form-index c.form-item.result c.loop-form-test.true c.loop-form.invariant.forms (subst IsForm c.form-item.is c.in_ok-add_form.ensures.form);
}
