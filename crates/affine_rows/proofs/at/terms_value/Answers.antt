use Rattle.std.proofs.Common.{arith, rules, FitsSigned, refl, get_or, unsigned_abs, ℤ, ℕ, pos, List}
use Rattle.std.specs.Int.{w64, w128}
use Rattle.std.proofs.lemmas.Int.{to_z-of_z, fits_signed_from_abs}
use Rattle.std.proofs.lemmas.List.Sums.{sum_by-drop_more, get_or-le-sum_by}
use Rattle.affine_rows.proofs.Left.{turn_left}
use Rattle.affine_rows.proofs.at.terms_value.Goals as goal

pub plus-sum-requires : goal.plus-sum-requires
plus-sum-requires g c =
    let ts : List (ℕ × ℤ) = c.args.terms.now in
    let i : ℕ = c.loop-var.var-index in
    let more = sum_by-drop_more (λ (t : ℕ × ℤ). unsigned_abs t.1) ts i (0, pos 0) c.loop-var-test.true in
    let entry = get_or-le-sum_by (λ (t : ℕ × ℤ). unsigned_abs t.1) ts i (0, pos 0) c.loop-var-test.true in
    let factor_fits : FitsSigned w64 (get_or ts i (0, pos 0)).1 = fits_signed_from_abs w64 _ (omega (arith, entry, c.requires)) in
    let fits : FitsSigned w128 c.product.result = search rules in
    let small = simp to_z-of_z at c.product.ensures.small in
    simp to_z-of_z (omega (arith, more, small))

pub loop-var-preserved : goal.loop-var-preserved
loop-var-preserved g c =
    let ts : List (ℕ × ℤ) = c.args.terms.now in
    let i : ℕ = c.loop-var.var-index in
    let more = sum_by-drop_more (λ (t : ℕ × ℤ). unsigned_abs t.1) ts i (0, pos 0) c.loop-var-test.true in
    let entry = get_or-le-sum_by (λ (t : ℕ × ℤ). unsigned_abs t.1) ts i (0, pos 0) c.loop-var-test.true in
    let factor_fits : FitsSigned w64 (get_or ts i (0, pos 0)).1 = fits_signed_from_abs w64 _ (omega (arith, entry, c.requires)) in
    let var_fits : FitsSigned w64 c.var.result = search rules in
    let product_fits : FitsSigned w128 c.product.result = search rules in
    let plus_fits : FitsSigned w128 c.plus-sum.result = search rules in
    let term = simp to_z-of_z at c.product.ensures.value in
    let small = simp to_z-of_z at c.product.ensures.small in
    let made = simp to_z-of_z at c.plus-sum.ensures.value in
    let made_small = simp to_z-of_z at c.plus-sum.ensures.small in
    record {
      value = simp to_z-of_z (turn_left (g.V.Vars.number c.args.vars.now) _ _ _ _ _ ts i (0, pos 0) c.loop-var-test.true c.loop-var.invariant.value refl c.var.ensures term made);
      small = simp to_z-of_z (omega (arith, more, small, made_small, c.loop-var.invariant.small));
    }
