use Rattle.std.proofs.Common.{◌≡◌, ◌++◌, take, All}
use Rattle.std.specs.Prelude.{flat_map}
use Rattle.affine_rows.specs.Forms.{IsForm}
use Rattle.quasi_forms.specs.Limits.{floors_in}
use Rattle.quasi_forms.proofs.limits.add_forms.Given as goal

abbrev pub invariant-loop-form : goal.invariant-loop-form
invariant-loop-form l = record { floors : l.made.items ≡ l.initial.made.items ++ flat_map floors_in (take l.form-index l.forms); forms : All IsForm (take l.form-index l.forms) }
