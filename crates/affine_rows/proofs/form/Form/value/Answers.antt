use Rattle.std.proofs.Common.{arith, rules, FitsSigned}
use Rattle.std.specs.Int.{w128}
use Rattle.std.proofs.lemmas.Int.{to_z-of_z}
use Rattle.affine_rows.proofs.FormEquations.{IsForm-reach}
use Rattle.affine_rows.proofs.form.Form.value.Goals as goal

pub returns-clause-small : goal.returns-clause-small
returns-clause-small g c =
    let fits : FitsSigned w128 c.form_value.result = search rules in
    let small = rw c.quasi.ensures.same at c.form_value.ensures.small in
    simp to_z-of_z (omega (arith, small, IsForm-reach _ c.quasi.ensures.form))
