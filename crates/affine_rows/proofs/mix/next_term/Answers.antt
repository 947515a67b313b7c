use Rattle.std.proofs.Common.{◌≡◌, ◌<◌, ◌≤◌, ◌∙◌, length, arith, rules}
use Rattle.std.specs.Prelude.{slice_index_or, pos, FitsSigned, ◌*ℤ◌, ◌+ℤ◌}
use Rattle.std.proofs.lemmas.Int.{to_z-of_z}
use Rattle.std.specs.Int.{w64, w128}
use Rattle.affine_rows.proofs.Mixing.{Rising-from, next_left, next_right, next_both}
use Rattle.affine_rows.proofs.mix.next_term.Goals as goal

pub returns-then-comes_first-clause-next : goal.returns-then-comes_first-clause-next
returns-then-comes_first-clause-next c =
    let fits : FitsSigned w128 c.product.result = search rules in
    let p_fits : FitsSigned w64 c.args.p = c.ranges.p in
    let factor_fits : FitsSigned w64 (slice_index_or c.args.left.now c.args.i (0, pos 0)).1 = search rules in
    let value : c.product.result ≡ c.args.p *ℤ (slice_index_or c.args.left.now c.args.i (0, pos 0)).1 = simp to_z-of_z at c.product.ensures.value in
    next_left c.args.p c.args.left.now c.args.q c.args.right.now c.args.i c.args.j _ (Rising-from c.args.left.now c.requires.left_rising) (Rising-from c.args.right.now c.requires.right_rising)
    (c.comes_first.ensures.first c.if-comes_first.true) c.requires.right_in (c.comes_first.ensures.before c.if-comes_first.true) (to_z-of_z w128 c.product.result fits ∙ value)

pub returns-then-comes_first-2-clause-next : goal.returns-then-comes_first-2-clause-next
returns-then-comes_first-2-clause-next c =
    let fits : FitsSigned w128 c.product-then-comes_first-2.result = search rules in
    let q_fits : FitsSigned w64 c.args.q = c.ranges.q in
    let factor_fits : FitsSigned w64 (slice_index_or c.args.right.now c.args.j (0, pos 0)).1 = search rules in
    let value : c.product-then-comes_first-2.result ≡ c.args.q *ℤ (slice_index_or c.args.right.now c.args.j (0, pos 0)).1 = simp to_z-of_z at c.product-then-comes_first-2.ensures.value in
    next_right c.args.p c.args.left.now c.args.q c.args.right.now c.args.i c.args.j _ (Rising-from c.args.left.now c.requires.left_rising) (Rising-from c.args.right.now c.requires.right_rising)
    c.requires.left_in (c.comes_first-2.ensures.first c.if-comes_first-2.true) (c.comes_first-2.ensures.before c.if-comes_first-2.true) (to_z-of_z w128 c.product-then-comes_first-2.result fits ∙ value)

pub returns-clause-next : goal.returns-clause-next
returns-clause-next c =
    let l = slice_index_or c.args.left.now c.args.i (0, pos 0) in
    let r = slice_index_or c.args.right.now c.args.j (0, pos 0) in
    let left_other : c.args.i < length c.args.left.now → c.args.j < length c.args.right.now = c.comes_first.ensures.other c.if-comes_first.false in
    let right_other : c.args.j < length c.args.right.now → c.args.i < length c.args.left.now = c.comes_first-2.ensures.other c.if-comes_first-2.false in
    let in_left : c.args.i < length c.args.left.now = grind arith in
    let in_right : c.args.j < length c.args.right.now = left_other in_left in
    let le : r.0 ≤ l.0 = c.comes_first.ensures.after c.if-comes_first.false in_left in
    let ge : l.0 ≤ r.0 = c.comes_first-2.ensures.after c.if-comes_first-2.false in_right in
    let fits : FitsSigned w128 c.products.result = search rules in
    let p_fits : FitsSigned w64 c.args.p = c.ranges.p in
    let q_fits : FitsSigned w64 c.args.q = c.ranges.q in
    let first_fits : FitsSigned w64 (slice_index_or c.args.left.now c.args.i (0, pos 0)).1 = search rules in
    let second_fits : FitsSigned w64 (slice_index_or c.args.right.now c.args.j (0, pos 0)).1 = search rules in
    let value : c.products.result ≡ c.args.p *ℤ (slice_index_or c.args.left.now c.args.i (0, pos 0)).1 +ℤ c.args.q *ℤ (slice_index_or c.args.right.now c.args.j (0, pos 0)).1 = simp to_z-of_z at c.products.ensures.value in
    next_both c.args.p c.args.left.now c.args.q c.args.right.now c.args.i c.args.j _ (Rising-from c.args.left.now c.requires.left_rising) (Rising-from c.args.right.now c.requires.right_rising)
    in_left in_right (omega arith) (to_z-of_z w128 c.products.result fits ∙ value)
