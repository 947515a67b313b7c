use Rattle.std.proofs.Common.{List, ℤ, ◌∙◌, rules, refl, arith, ◌≡◌, ◌+ℤ◌, ◌-ℤ◌, ◌*ℤ◌, FitsSigned, pos, ap}
use Rattle.std.specs.Int.{w64, w128}
use Rattle.std.proofs.lemmas.Int.{ints, to_z-of_z}
use Rattle.affine_rows.specs.Rows.{row_at, env_of}
use Rattle.elimination.proofs.RowSizes.{row_small, over_from}
use Rattle.elimination.proofs.bounding.value_over.Goals as goal

pub add_product-requires-clause-sum : goal.add_product-requires-clause-sum
add_product-requires-clause-sum c =
    let fits : FitsSigned w128 c.value_at-once.result = search rules in
    let value : c.value_at-once.result ≡ row_at (env_of c.args.point.now.at) c.args.row.now = c.value_at-once.ensures ∙ ap (λ (at : List ℤ). row_at (env_of at) c.args.row.now) c.as_slice.ensures in
    simp to_z-of_z (row_small c.args.point.now.at c.args.row.now c.value_at-once.result c.requires.row c.requires.few c.requires.small.at value)

pub returns-clause-value : goal.returns-clause-value
returns-clause-value c =
    let fits : FitsSigned w128 c.value_at-once.result = search rules in
    let result_fits : FitsSigned w128 c.add_product.result = search rules in
    let constant_fits : FitsSigned w64 c.args.row.now.constant = search rules in
    let over_fits : FitsSigned w64 c.args.point.now.over = search rules in
    let less_fits : FitsSigned w64 (c.args.point.now.over -ℤ pos 1) = omega (arith, ints, over_fits, c.requires.positive) in
    let value : c.value_at-once.result ≡ row_at (env_of c.args.point.now.at) c.args.row.now = c.value_at-once.ensures ∙ ap (λ (at : List ℤ). row_at (env_of at) c.args.row.now) c.as_slice.ensures in
    let made : c.add_product.result ≡ c.value_at-once.result +ℤ c.args.row.now.constant *ℤ (c.args.point.now.over -ℤ pos 1) = simp to_z-of_z at c.add_product.ensures.value in
    simp to_z-of_z (over_from c.args.point.now c.args.row.now c.value_at-once.result (c.args.point.now.over -ℤ pos 1) c.add_product.result c.requires.positive value refl made)
