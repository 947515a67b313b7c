use Rattle.std.proofs.Common.{sym, subst}
use Rattle.affine_rows.specs.Forms.{IsForm}
use Rattle.quasi_forms.proofs.PartSums.{form_part}
use Rattle.quasi_forms.proofs.put.add_one.Goals as goal

pub add-requires-clause-part : goal.add-requires-clause-part
add-requires-clause-part c = form_part c.quasi.result.now (subst IsForm (sym c.quasi.ensures.same) c.quasi.ensures.form)
