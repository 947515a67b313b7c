use Rattle.std.proofs.Common.{◌≡◌, ◌*ℤ◌, refl, rules, FitsSigned}
use Rattle.std.specs.Int.{w64, w128}
use Rattle.std.proofs.lemmas.Int.{to_z-of_z}
use Rattle.affine_rows.specs.declared.quasi.Floor.{out-Floor}
use Rattle.quasi_forms.specs.Flattened.{floor_var}
use Rattle.quasi_forms.proofs.FlatRows.{var_is, term_added}
use Rattle.quasi_forms.proofs.flattened.add_floor_term.Goals as goal

pub returns : goal.returns
returns c =
    let by_fits : FitsSigned w64 c.args.by = c.ranges.by in
    let times_fits : FitsSigned w64 (out-Floor c.args.floor.now).times = search rules in
    let divisor_fits : FitsSigned w64 (out-Floor c.args.floor.now).by = search rules in
    let made_fits : FitsSigned w128 c.product.result = search rules in
    let value : c.product.result ≡ c.args.by *ℤ (out-Floor c.args.floor.now).times = simp to_z-of_z at c.product.ensures.value in
    let var : c.floor_var-var.result ≡ floor_var c.args.width c.args.floors.now c.args.floor.now = var_is c.args.width c.args.floors.now c.args.floor.now (out-Floor c.args.floor.now).inner (out-Floor c.args.floor.now).by c.floor_var-var.result refl refl (simp to_z-of_z at c.floor_var-var.ensures) in
    term_added c.args.made.now.items c.push.new.self.items c.floor_var-var.result (floor_var c.args.width c.args.floors.now c.args.floor.now) c.product.result (c.args.by *ℤ (out-Floor c.args.floor.now).times) var value (simp to_z-of_z at c.in_ok-push.ensures.items)
