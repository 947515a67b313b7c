use Rattle.std.proofs.Common.{arith, rules, ◌≡◌, ◌≤◌, ◌^◌, ◌++◌, ◌∷◌, [], ◌∙◌, sym, ap, subst, drop, List, ℕ, ℤ, pos, All, unsigned_abs}
use Rattle.std.specs.Prelude.{FitsSigned}
use Rattle.std.proofs.lemmas.Int.{ints, to_z-of_z}
use Rattle.std.proofs.lemmas.List.Elements.{All-push}
use Rattle.std.specs.Int.{w64, w128}
use Rattle.affine_rows.specs.Reduced.{mixed_terms}
use Rattle.affine_rows.proofs.Mixing.{push_term, skip_term, none_left}
use Rattle.affine_rows.proofs.mix.mixed_terms.Goals as goal

pub steps-preserved-in_ok-push : goal.steps-preserved-in_ok-push
steps-preserved-in_ok-push c =
    let p_fits : FitsSigned w64 c.args.p = c.ranges.p in
    let q_fits : FitsSigned w64 c.args.q = c.ranges.q in
    let factor_fits : FitsSigned w128 c.next_term-step.result.factor = search rules in
    let pushed : c.push.new.self.items ≡ c.steps.terms.items ++ (c.next_term-step.result.var, c.next_term-step.result.factor) ∷ [] = simp to_z-of_z at c.in_ok-push.ensures.items in
    let next = simp to_z-of_z at c.next_term-step.ensures.next in
    let value = simp to_z-of_z at c.steps.invariant.value in
    let after : List (ℕ × ℤ) = mixed_terms c.args.p (drop c.next_term-step.result.left c.args.left.now) c.args.q (drop c.next_term-step.result.right c.args.right.now) in
    record {
      left_in = c.next_term-step.ensures.left_in;
      right_in = c.next_term-step.ensures.right_in;
      value = simp to_z-of_z (ap (λ (ts : List (ℕ × ℤ)). ts ++ after) pushed ∙ (push_term c.steps.terms.items after c.next_term-step.result.var c.next_term-step.result.factor (omega (arith, ints)) ∙ (ap (λ (ts : List (ℕ × ℤ)). c.steps.terms.items ++ ts) (sym next) ∙ value)));
      small = subst (All (λ (t : ℕ × ℤ). unsigned_abs t.1 ≤ 2 ^ 126)) (sym pushed) (All-push (λ (t : ℕ × ℤ). unsigned_abs t.1 ≤ 2 ^ 126) c.steps.terms.items (c.next_term-step.result.var, c.next_term-step.result.factor) c.steps.invariant.small c.next_term-step.ensures.small);
    }

pub steps-preserved : goal.steps-preserved
steps-preserved c =
    let p_fits : FitsSigned w64 c.args.p = c.ranges.p in
    let q_fits : FitsSigned w64 c.args.q = c.ranges.q in
    let next = simp to_z-of_z at c.next_term-step.ensures.next in
    let value = simp to_z-of_z at c.steps.invariant.value in
    let none : c.next_term-step.result.factor ≡ pos 0 = grind (arith, ints) in
    let after : List (ℕ × ℤ) = mixed_terms c.args.p (drop c.next_term-step.result.left c.args.left.now) c.args.q (drop c.next_term-step.result.right c.args.right.now) in
    record {
      left_in = c.next_term-step.ensures.left_in;
      right_in = c.next_term-step.ensures.right_in;
      value = simp to_z-of_z (skip_term c.steps.terms.items after c.next_term-step.result.var c.next_term-step.result.factor none ∙ (ap (λ (ts : List (ℕ × ℤ)). c.steps.terms.items ++ ts) (sym next) ∙ value));
      small = c.steps.invariant.small;
    }

pub returns-clause-value : goal.returns-clause-value
returns-clause-value c =
    let p_fits : FitsSigned w64 c.args.p = c.ranges.p in
    let q_fits : FitsSigned w64 c.args.q = c.ranges.q in
    let value = simp to_z-of_z at c.steps.invariant.value in
    sym (none_left c.args.p c.args.left.now c.args.q c.args.right.now c.steps.terms.items c.steps.i c.steps.j (grind arith) (grind arith)) ∙ value
