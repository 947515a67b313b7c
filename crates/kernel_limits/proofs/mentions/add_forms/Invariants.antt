use Rattle.std.proofs.Common.{◌≡◌, ◌++◌, take}
use Rattle.kernel_limits.proofs.mentions.add_forms.Given as goal

abbrev pub invariant-loop-form : goal.invariant-loop-form
invariant-loop-form l = l.made ≡ l.initial.made ++ take l.form-index l.forms
