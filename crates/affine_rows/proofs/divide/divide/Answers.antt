use Rattle.std.proofs.Common.{rules, ◌∙◌, FitsSigned}
use Rattle.std.specs.Int.{w64}
use Rattle.std.proofs.lemmas.Int.{to_z-of_z}
use Rattle.affine_rows.proofs.Division.{divided_row-from}
use Rattle.affine_rows.proofs.divide.divide.Goals as goal

pub returns : goal.returns
returns c =
    let fits : FitsSigned w64 c.narrow_quotient-row.result = search rules in
    let constant : FitsSigned w64 c.args.row.now.constant = search rules in
    let made = simp to_z-of_z at c.narrow_quotient-row.ensures in
    divided_row-from c.args.by c.args.row.now _ _ (to_z-of_z w64 c.narrow_quotient-row.result fits ∙ made) c.divide.ensures
