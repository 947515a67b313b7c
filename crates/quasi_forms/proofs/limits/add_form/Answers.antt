use Rattle.std.proofs.Common.{◌∙◌, ◌++◌, sym, ap, List}
use Rattle.std.specs.Prelude.{flat_map}
use Rattle.affine_rows.specs.declared.quasi.Quasi.{Quasi, out-Quasi}
use Rattle.affine_rows.specs.declared.quasi.Floor.{Floor}
use Rattle.quasi_forms.specs.Limits.{floors_within}
use Rattle.quasi_forms.proofs.Errors.{on_ok}
use Rattle.quasi_forms.proofs.FormLimits.{floors_in-out}
use Rattle.quasi_forms.proofs.limits.add_form.Goals as goal

pub returns-clause-floors : goal.returns-clause-floors
returns-clause-floors c =
    on_ok c.add_floors.result _ _
    (λ made. made
    ∙ ap (λ (fs : List Floor). c.args.made.now.items ++ fs) (ap (flat_map floors_within) c.as_slice.ensures ∙ (ap (λ (q : Quasi). flat_map floors_within (out-Quasi q).floors) c.quasi.ensures.same ∙ sym (floors_in-out c.args.form.now))))
    c.add_floors.ensures
