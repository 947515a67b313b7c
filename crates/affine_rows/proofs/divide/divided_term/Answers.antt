use Rattle.std.proofs.Common.{rules, ◌∙◌, FitsSigned}
use Rattle.std.specs.Int.{w64}
use Rattle.std.proofs.lemmas.Int.{to_z-of_z}
use Rattle.affine_rows.proofs.Division.{divided_term-from}
use Rattle.affine_rows.proofs.divide.divided_term.Goals as goal

pub returns : goal.returns
returns c =
    let fits : FitsSigned w64 c.narrow_quotient.result = search rules in
    let term : FitsSigned w64 c.args.term.1 = search rules in
    let made = simp to_z-of_z at c.narrow_quotient.ensures in
    divided_term-from c.args.by c.args.term _ (to_z-of_z w64 c.narrow_quotient.result fits ∙ made)
