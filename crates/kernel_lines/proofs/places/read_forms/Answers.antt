use Rattle.std.proofs.Common.{◌≡◌, List, subst}
use Rattle.kernel_grammar.specs.declared.step.Step.{Step}
use Rattle.kernel_names.specs.Lines.{first_faults}
use Rattle.untyped.specs.Readings.{untyped_of}
use Rattle.kernel_lines.specs.Places.{index_of, reading_faults, forms_of, forms_faults}
use Rattle.kernel_lines.proofs.ConditionLaws.{forms_more, faults_more}
use Rattle.kernel_lines.proofs.places.read_forms.Goals as goal

pub items-preserved : goal.items-preserved
items-preserved g c =
    let roles = g.S.Scope.roles c.args.scope.now in
    let form = subst (λ (xs : List Step). c.in_ok-form.form ≡ index_of (untyped_of roles xs).part) c.as_slice.ensures c.in_ok-form.ensures.form in
    let wrong = subst (λ (xs : List Step). c.in_ok-form.wrong ≡ first_faults c.items.faults (reading_faults c.args.word.now (untyped_of roles xs))) c.as_slice.ensures c.in_ok-form.ensures.faults in
    record {
      forms = forms_more roles c.args.items.now c.items.steps-index c.steps-item.result c.items.forms c.push.new.self (forms_of roles c.args.items.now) c.in_ok-form.form c.items-test.true c.steps-item.is form c.in_ok-push.ensures.ok c.items.invariant.forms;
      faults = faults_more roles c.args.word.now c.args.items.now c.items.steps-index c.steps-item.result c.items.faults c.in_ok-form.wrong (forms_faults roles c.args.word.now c.args.items.now) c.items-test.true c.steps-item.is wrong c.items.invariant.faults;
    }
