use Rattle.std.proofs.Common.{rules, arith, ◌≡◌, ◌≤◌, ◌^◌, ◌∙◌, ap, sym, FitsSigned, get_or, take, fold, max, pos, unsigned_abs, ℕ, ℤ, List}
use Rattle.std.specs.Int.{w64}
use Rattle.std.proofs.lemmas.Int.{to_z-of_z}
use Rattle.std.proofs.lemmas.List.Sums.{fold_more}
use Rattle.std.proofs.lemmas.List.{take_all}
use Rattle.affine_rows.specs.Reduced.{greatest_divisor, common_divisor}
use Rattle.affine_rows.proofs.Divisors.{step, greatest_divisor-small}
use Rattle.affine_rows.proofs.divide.common_divisor.Goals as goal

pub loop-term-preserved : goal.loop-term-preserved
loop-term-preserved c =
    let fits : FitsSigned w64 (get_or c.args.terms.now c.loop-term.term-index (0, pos 0)).1 = search rules in
    let size : c.unsigned_abs.result ≡ unsigned_abs (get_or c.args.terms.now c.loop-term.term-index (0, pos 0)).1 = simp to_z-of_z at c.unsigned_abs.ensures.value in
    let small : c.unsigned_abs.result ≤ 2 ^ 126 = omega arith in
    let more = fold_more step c.args.start c.args.terms.now c.loop-term.term-index (0, pos 0) c.loop-term-test.true in
    let value : c.greatest_divisor-divisor.result ≡ greatest_divisor c.loop-term.divisor (unsigned_abs (get_or c.args.terms.now c.loop-term.term-index (0, pos 0)).1) = c.greatest_divisor-divisor.ensures ∙ ap (greatest_divisor c.loop-term.divisor) (c.from.ensures ∙ size) in
    let le = greatest_divisor-small c.loop-term.divisor c.from.result (2 ^ 126) c.loop-term.invariant.small (omega arith) in
    record {
      value = value ∙ (ap (λ (n : ℕ). greatest_divisor n (unsigned_abs (get_or c.args.terms.now c.loop-term.term-index (0, pos 0)).1)) c.loop-term.invariant.value ∙ sym more);
      small = omega arith;
    }

pub returns-clause-value : goal.returns-clause-value
unfolding common_divisor
returns-clause-value c =
    let all : fold step c.args.start (take c.loop-term.term-index c.args.terms.now) ≡ fold step c.args.start c.args.terms.now = ap (λ (ts : List (ℕ × ℤ)). fold step c.args.start ts) (take_all c.loop-term.term-index c.args.terms.now (omega arith)) in
    c.max.ensures ∙ (let e : max c.loop-term.divisor 1 ≡ max 1 c.loop-term.divisor = omega arith in e ∙ ap (λ (n : ℕ). max 1 n) (c.loop-term.invariant.value ∙ all))
