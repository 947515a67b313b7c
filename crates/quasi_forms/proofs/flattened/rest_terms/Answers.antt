use Rattle.std.proofs.Common.{◌≡◌, ◌≤◌, ◌^◌, ◌∙◌, ◌*ℤ◌, neg_ℤ, ap, arith, rules, unsigned_abs, FitsSigned, ℤ}
use Rattle.std.specs.Int.{w64, w128}
use Rattle.std.proofs.lemmas.Int.{ints, to_z-of_z}
use Rattle.affine_rows.specs.declared.quasi.Floor.{out-Floor}
use Rattle.quasi_forms.specs.Collected.{scaled_terms}
use Rattle.quasi_forms.specs.Flattened.{floor_var, flat_terms}
use Rattle.quasi_forms.proofs.FlatRows.{var_is, rest_is, rest_small}
use Rattle.quasi_forms.proofs.flattened.rest_terms.Goals as goal

pub returns-clause-terms : goal.returns-clause-terms
returns-clause-terms c =
    let by_fits : FitsSigned w64 c.args.by = c.ranges.by in
    let one_fits : FitsSigned w64 c.by.result = search rules in
    let two_fits : FitsSigned w64 c.by-2.result = search rules in
    let neg_fits : FitsSigned w64 c.negated.result = search rules in
    let made_fits : FitsSigned w128 c.product.result = search rules in
    let first : c.by.result ≡ (out-Floor c.args.floor.now).by = c.by.ensures in
    let second : c.by-2.result ≡ (out-Floor c.args.floor.now).by = c.by-2.ensures in
    let negative : c.negated.result ≡ neg_ℤ c.by-2.result = simp to_z-of_z at c.negated.ensures in
    let value : c.product.result ≡ c.args.by *ℤ c.negated.result = simp to_z-of_z at c.product.ensures.value in
    let var : c.floor_var-var.result ≡ floor_var c.args.width c.args.floors.now c.args.floor.now = var_is c.args.width c.args.floors.now c.args.floor.now c.inner-2.result.now c.by.result c.floor_var-var.result c.inner-2.ensures first (simp to_z-of_z at c.floor_var-var.ensures) in
    let terms : c.in_ok-terms.terms.items ≡ scaled_terms c.args.by (flat_terms c.args.width c.args.floors.now c.inner.result.now) = simp to_z-of_z at c.in_ok-terms.ensures in
    rest_is c.args.width c.args.floors.now c.args.by c.args.floor.now c.inner.result.now c.in_ok-terms.terms.items c.push.new.self.items c.floor_var-var.result c.product.result
    c.inner.ensures terms var (value ∙ ap (λ (z : ℤ). c.args.by *ℤ z) (negative ∙ ap neg_ℤ second)) (simp to_z-of_z at c.in_ok-push.ensures.items)

pub returns-clause-small : goal.returns-clause-small
returns-clause-small c =
    let fits : FitsSigned w64 c.by.result = search rules in
    let divisor : unsigned_abs (out-Floor c.args.floor.now).by ≤ 2 ^ 63 = (let e = ap unsigned_abs c.by.ensures in omega (arith, ints, fits, e)) in
    rest_small c.args.width c.args.floors.now c.args.by c.args.floor.now c.push.new.self.items c.requires.once c.requires.floor divisor (returns-clause-terms c)
