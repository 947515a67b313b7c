use Rattle.std.proofs.Common.{◌≡◌, take}
use Rattle.affine_rows.proofs.copies.copy_forms.Given as goal

abbrev pub invariant-loop-form : goal.invariant-loop-form
invariant-loop-form l = l.copied ≡ take l.form-index l.forms
