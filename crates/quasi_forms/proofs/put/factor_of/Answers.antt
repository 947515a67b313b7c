use Rattle.std.proofs.Common.{arith, rules, get_or, unsigned_abs, FitsSigned, to_z, List, ℕ, ℤ, pos}
use Rattle.std.specs.Int.{w64}
use Rattle.std.proofs.lemmas.Int.{to_z-of_z, fits_signed_from_abs}
use Rattle.std.proofs.lemmas.List.Sums.{sum_by-drop_more, get_or-le-sum_by}
use Rattle.quasi_forms.proofs.Placing.{factor_next}
use Rattle.quasi_forms.proofs.put.factor_of.Goals as goal

pub loop-term-preserved : goal.loop-term-preserved
loop-term-preserved c =
    let ts : List (ℕ × ℤ) = c.args.terms.now in
    let i : ℕ = c.loop-term.term-index in
    let more = sum_by-drop_more (λ (t : ℕ × ℤ). unsigned_abs t.1) ts i (0, pos 0) c.loop-term-test.true in
    let entry = get_or-le-sum_by (λ (t : ℕ × ℤ). unsigned_abs t.1) ts i (0, pos 0) c.loop-term-test.true in
    let element_fits : FitsSigned w64 (get_or ts i (0, pos 0)).1 = fits_signed_from_abs w64 _ (omega (arith, entry, c.requires)) in
    let r_fits : FitsSigned w64 c.factor_if.result = search rules in
    let sum_fits : FitsSigned w64 (to_z w64 c.loop-term.sum-bits) = search rules in
    let made_fits : FitsSigned w64 c.plus-sum.result = search rules in
    let value = simp to_z-of_z at c.plus-sum.ensures.value in
    let small = simp to_z-of_z at c.plus-sum.ensures.small in
    let r_small = c.factor_if.ensures.small in
    record {
      value = simp to_z-of_z (factor_next c.args.var ts i (0, pos 0) (to_z w64 c.loop-term.sum-bits) c.factor_if.result c.plus-sum.result c.loop-term-test.true c.factor_if.ensures.value value c.loop-term.invariant.value);
      small = simp to_z-of_z (omega (arith, more, small, r_small, c.loop-term.invariant.small));
    }
