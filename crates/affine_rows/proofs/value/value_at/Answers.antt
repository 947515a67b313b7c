use Rattle.std.proofs.Common.{arith, rules, FitsSigned, refl, get_or, ◌≤◌, ◌<◌, ◌+◌, ◌*◌, ◌^◌, length, unsigned_abs, to_z, ℤ, ℕ, pos, List}
use Rattle.std.specs.Int.{w64, w128}
use Rattle.std.proofs.lemmas.Int.{to_z-of_z, fits_signed_from_abs}
use Rattle.affine_rows.specs.Rows.{env_of, IsTerm}
use Rattle.affine_rows.proofs.Sums.{turn_value, turn_small, rising-short}
use Rattle.affine_rows.proofs.value.value_at.Goals as goal

pub add_product-sum-requires-clause-sum : goal.add_product-sum-requires-clause-sum
add_product-sum-requires-clause-sum c =
    let few = rising-short _ _ c.requires.row.terms c.requires.row.rising in
    let inside : c.loop-var.var-index < length c.args.row.now.terms = rw (← c.as_slice-var-items.ensures) c.loop-var-test.true in
    omega (arith, few, inside)

pub loop-var-preserved : goal.loop-var-preserved
loop-var-preserved c =
    let ts : List (ℕ × ℤ) = c.args.row.now.terms in
    let at : List ℤ = c.args.at.now in
    let i : ℕ = c.loop-var.var-index in
    let inside : i < length ts = rw (← c.as_slice-var-items.ensures) c.loop-var-test.true in
    let term : IsTerm (length at) (get_or ts i (0, pos 0)) = c.requires.row.terms i (0, pos 0) inside in
    let small : unsigned_abs (get_or at (get_or ts i (0, pos 0)).0 (pos 0)) ≤ 2 ^ 56 = c.requires.small _ (pos 0) term.var in
    let factor_fits : FitsSigned w64 (get_or ts i (0, pos 0)).1 = fits_signed_from_abs w64 _ (omega (arith, term.entry)) in
    let number_fits : FitsSigned w64 (get_or at (get_or ts i (0, pos 0)).0 (pos 0)) = fits_signed_from_abs w64 _ (omega (arith, small)) in
    let fits : FitsSigned w128 c.add_product-sum.result = search rules in
    let made = simp to_z-of_z at (rw c.as_slice-var-items.ensures at c.add_product-sum.ensures) in
    record {
      value = simp to_z-of_z (turn_value (env_of at) c.args.row.now.constant _ _ _ _ ts i (0, pos 0) inside c.loop-var.invariant.value refl refl made);
      small = simp to_z-of_z (omega (arith, turn_small (to_z w128 c.loop-var.sum-bits) c.add_product-sum.result (get_or ts i (0, pos 0)).1 (get_or at (get_or ts i (0, pos 0)).0 (pos 0)) (2 ^ 62 + i * 2 ^ 118) (2 ^ 62) (2 ^ 56) c.loop-var.invariant.small term.entry small made));
    }
