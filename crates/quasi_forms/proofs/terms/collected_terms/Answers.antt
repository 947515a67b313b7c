use Rattle.std.proofs.Common.{◌≡◌, ◌∙◌, ◌≤◌, sym, ap, subst, rules, arith, take, map, sum_by, unsigned_abs, FitsSigned, List, ℕ, ℤ, pos}
use Rattle.std.specs.Prelude.{slice_index_or}
use Rattle.std.specs.Int.{w128}
use Rattle.std.specs.List.{AllByRecursion}
use Rattle.std.specs.List.Sorted.{IsStrictlyIncreasing, IsNonDecreasingBy, IsPermutation}
use Rattle.std.proofs.lemmas.Int.{to_z-of_z}
use Rattle.std.proofs.lemmas.List.Sorted.{IsNonDecreasingBy-from_sort_by_key, sum_by-IsPermutation}
use Rattle.affine_rows.specs.Reduced.{add_term}
use Rattle.affine_rows.proofs.Mixing.{increasing}
use Rattle.quasi_forms.specs.Collected.{collected_terms}
use Rattle.quasi_forms.proofs.TermSums.{collected-rising, collected-most, most-before, sized-next, collected-next, collected-all}
use Rattle.quasi_forms.proofs.terms.collected_terms.Goals as goal

pub loop-var-init : goal.loop-var-init
unfolding collected_terms
loop-var-init c = c.new-made.ensures.items

pub add_last-requires-clause-rising : goal.add_last-requires-clause-rising
add_last-requires-clause-rising c =
    let sorted : List (ℕ × ℤ) = c.deref-var-items.result.now in
    subst (λ (ts : List (ℕ × ℤ)). IsStrictlyIncreasing (map (λ t. t.0) ts)) (sym c.loop-var.invariant)
    (increasing (collected_terms (take c.loop-var.var-index sorted)) (collected-rising (take c.loop-var.var-index sorted)))

pub add_last-requires-clause-last : goal.add_last-requires-clause-last
add_last-requires-clause-last c =
    let sorted : List (ℕ × ℤ) = c.deref-var-items.result.now in
    let i : ℕ = c.loop-var.var-index in
    let order = IsNonDecreasingBy-from_sort_by_key (λ (t : ℕ × ℤ). t.0) _ c.in_ok-sort_by_key.ensures.sorted (λ a r q k. search rules) in
    let rising : IsNonDecreasingBy (λ (t : ℕ × ℤ). t.0) sorted = subst (λ (ts : List (ℕ × ℤ)). IsNonDecreasingBy (λ (t : ℕ × ℤ). t.0) ts) (sym c.deref-var-items.ensures.value) order in
    subst (λ (ts : List (ℕ × ℤ)). AllByRecursion (λ t. t.0 ≤ (slice_index_or sorted i (0, pos 0)).0) ts) (sym c.loop-var.invariant)
    (collected-most (slice_index_or sorted i (0, pos 0)).0 (take i sorted) (most-before sorted i i (0, pos 0) rising (omega arith) c.loop-var-test.true))

pub add_last-requires-clause-small : goal.add_last-requires-clause-small
add_last-requires-clause-small c =
    let sorted : List (ℕ × ℤ) = c.deref-var-items.result.now in
    let i : ℕ = c.loop-var.var-index in
    let fits : FitsSigned w128 (slice_index_or sorted i (0, pos 0)).1 = search rules in
    let moved : IsPermutation c.args.terms.items sorted = subst (IsPermutation c.args.terms.items) (sym c.deref-var-items.ensures.value) c.in_ok-sort_by_key.ensures.permutation in
    let made = ap (sum_by (λ (t : ℕ × ℤ). unsigned_abs t.1)) c.loop-var.invariant in
    simp to_z-of_z (omega (arith, made, sized-next sorted i (0, pos 0) c.loop-var-test.true, sum_by-IsPermutation (λ (t : ℕ × ℤ). unsigned_abs t.1) c.args.terms.items sorted moved, c.requires))

pub loop-var-preserved : goal.loop-var-preserved
loop-var-preserved c =
    let sorted : List (ℕ × ℤ) = c.deref-var-items.result.now in
    let i : ℕ = c.loop-var.var-index in
    let fits : FitsSigned w128 (slice_index_or sorted i (0, pos 0)).1 = search rules in
    let made : c.add_last.new.made.items ≡ add_term (slice_index_or sorted i (0, pos 0)).0 (slice_index_or sorted i (0, pos 0)).1 c.loop-var.made.items = simp to_z-of_z at c.in_ok-add_last.ensures in
    made ∙ (ap (add_term (slice_index_or sorted i (0, pos 0)).0 (slice_index_or sorted i (0, pos 0)).1) c.loop-var.invariant ∙ sym (collected-next sorted i (0, pos 0) c.loop-var-test.true))

pub returns : goal.returns
returns c =
    let sorted : List (ℕ × ℤ) = c.deref-var-items.result.now in
    let moved : IsPermutation c.args.terms.items sorted = subst (IsPermutation c.args.terms.items) (sym c.deref-var-items.ensures.value) c.in_ok-sort_by_key.ensures.permutation in
    c.loop-var.invariant ∙ collected-all c.args.terms.items sorted c.loop-var.var-index moved c.loop-var-test.false
