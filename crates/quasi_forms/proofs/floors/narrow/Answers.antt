use Rattle.std.proofs.Common.{arith, FitsSigned}
use Rattle.std.specs.Int.{w128}
use Rattle.std.proofs.lemmas.Int.{to_z-of_z}
use Rattle.affine_rows.proofs.Combining.{fits_entry-is, fits_entry-not}
use Rattle.quasi_forms.proofs.floors.narrow.Goals as goal

pub returns-then-unsigned_abs-gt-WIDEST-clause-fits : goal.returns-then-unsigned_abs-gt-WIDEST-clause-fits
returns-then-unsigned_abs-gt-WIDEST-clause-fits c =
    let fits : FitsSigned w128 c.args.wide = c.ranges.wide in
    let size = simp to_z-of_z at c.unsigned_abs.ensures.value in
    fits_entry-not c.args.wide (omega arith)

pub returns-clause-fits : goal.returns-clause-fits
returns-clause-fits c =
    let fits : FitsSigned w128 c.args.wide = c.ranges.wide in
    let size = simp to_z-of_z at c.unsigned_abs.ensures.value in
    fits_entry-is c.args.wide (omega arith)
