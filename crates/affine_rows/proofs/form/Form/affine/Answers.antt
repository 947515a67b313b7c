use Rattle.std.proofs.lemmas.Int.{to_z-of_z}
use Rattle.affine_rows.proofs.FormLaws.{affine-IsForm}
use Rattle.affine_rows.proofs.form.Form.affine.Goals as goal

pub invariant_of-result : goal.invariant_of-result
invariant_of-result c = let fits = c.ranges.constant in simp (to_z-of_z, c.new.ensures) (affine-IsForm c.args.constant c.args.terms c.requires.constant c.requires.sum)
