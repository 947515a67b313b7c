use Rattle.std.proofs.Common.{◌&&◌, rules, FitsSigned}
use Rattle.std.specs.Int.{w64}
use Rattle.std.specs.Ordering.{int_eq}
use Rattle.std.proofs.lemmas.Int.{to_z-of_z}
use Rattle.affine_rows.specs.declared.quasi.Floor.{out-Floor}
use Rattle.quasi_forms.specs.Alike.{same_form}
use Rattle.quasi_forms.proofs.FloorSums.{no_place}
use Rattle.quasi_forms.proofs.floors.place_of.Goals as goal

pub returns : goal.returns
returns c =
    let fits : FitsSigned w64 c.args.by = c.ranges.by in
    no_place (λ g. int_eq c.args.by (out-Floor g).by && same_form c.args.inner.now (out-Floor g).inner) c.args.floors.now c.loop-at.at (search rules) c.loop-at-test.false (simp to_z-of_z at c.loop-at.invariant)
