use Rattle.std.proofs.Common.{rules, ◌≡◌, ◌∙◌, arith, ap, sym, to_z, FitsSigned, pos, ◌+ℤ◌, ◌*ℤ◌}
use Rattle.std.specs.Prelude.{◌≢◌}
use Rattle.std.specs.Int.{w128}
use mir.Val.{of_z}
use Rattle.std.proofs.lemmas.Int.{ints, to_z-of_z}
use Rattle.elimination.proofs.Quotients.{whole_decides, part_decides}
use Rattle.elimination.proofs.fractions.is_at_most.Goals as goal

pub returns-then-left-right : goal.returns-then-left-right
returns-then-left-right c =
    let left_fits : FitsSigned w128 c.parts_of-left.result.whole = search rules in
    let right_fits : FitsSigned w128 c.parts_of-right.result.whole = search rules in
    let left : c.args.first.number ≡ pos c.args.first.by *ℤ c.parts_of-left.result.whole +ℤ pos c.parts_of-left.result.part = c.parts_of-left.ensures.value in
    let right : c.args.second.number ≡ pos c.args.second.by *ℤ c.parts_of-right.result.whole +ℤ pos c.parts_of-right.result.part = c.parts_of-right.ensures.value in
    let apart : c.parts_of-left.result.whole ≢ c.parts_of-right.result.whole = (λ e. c.if-left-right.true (ap (of_z w128) e)) in
    let decides = whole_decides c.args.first.by c.args.second.by c.parts_of-left.result.part c.parts_of-right.result.part c.args.first.number c.args.second.number c.parts_of-left.result.whole c.parts_of-right.result.whole left c.parts_of-left.ensures.part right c.parts_of-right.ensures.part apart in
    simp to_z-of_z ((λ h. decides.1 (grind (arith, ints, h))), (λ h. let less = decides.0 h in grind (arith, ints, less)))

pub returns : goal.returns
returns c =
    let left_fits : FitsSigned w128 c.parts_of-left.result.whole = search rules in
    let right_fits : FitsSigned w128 c.parts_of-right.result.whole = search rules in
    let left : c.args.first.number ≡ pos c.args.first.by *ℤ c.parts_of-left.result.whole +ℤ pos c.parts_of-left.result.part = c.parts_of-left.ensures.value in
    let right : c.args.second.number ≡ pos c.args.second.by *ℤ c.parts_of-right.result.whole +ℤ pos c.parts_of-right.result.part = c.parts_of-right.ensures.value in
    let same : c.parts_of-left.result.whole ≡ c.parts_of-right.result.whole = sym (to_z-of_z w128 c.parts_of-left.result.whole left_fits) ∙ (ap (to_z w128) c.if-left-right.false ∙ to_z-of_z w128 c.parts_of-right.result.whole right_fits) in
    let decides = part_decides c.args.first.by c.args.second.by c.parts_of-left.result.part c.parts_of-right.result.part c.args.first.number c.args.second.number c.parts_of-left.result.whole c.parts_of-right.result.whole left right same in
    ((λ h. decides.1 (grind (arith, c.product.ensures, c.product-2.ensures, h))), (λ h. let le = decides.0 h in grind (arith, c.product.ensures, c.product-2.ensures, le)))
