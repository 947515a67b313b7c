use Rattle.std.proofs.Common.{◌&&◌, ◌+◌, ◌≤◌, arith, FitsSigned}
use Rattle.std.specs.Int.{w64}
use Rattle.std.proofs.lemmas.Int.{to_z-of_z}
use Rattle.std.specs.Ordering.{int_eq}
use Rattle.affine_rows.specs.declared.quasi.Floor.{out-Floor}
use Rattle.quasi_forms.specs.Alike.{same_form}
use Rattle.quasi_forms.proofs.FlatRows.{var_small}
use Rattle.quasi_forms.proofs.flattened.floor_var.Goals as goal

pub overflow_cast-result : goal.overflow_cast-result
overflow_cast-result c =
    let fits : FitsSigned w64 c.args.by = c.ranges.by in
    let small : c.args.width + c.place_of.result ≤ 128 = var_small (λ g. int_eq c.args.by (out-Floor g).by && same_form c.args.inner.now (out-Floor g).inner) c.args.floors.now c.args.width c.place_of.result (simp to_z-of_z at c.place_of.ensures) c.requires in
    omega (arith, small)

pub overflow_add-result : goal.overflow_add-result
overflow_add-result c =
    let fits : FitsSigned w64 c.args.by = c.ranges.by in
    let small : c.args.width + c.place_of.result ≤ 128 = var_small (λ g. int_eq c.args.by (out-Floor g).by && same_form c.args.inner.now (out-Floor g).inner) c.args.floors.now c.args.width c.place_of.result (simp to_z-of_z at c.place_of.ensures) c.requires in
    omega (arith, small)
