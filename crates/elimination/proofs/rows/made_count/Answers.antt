use Rattle.std.proofs.Common.{arith, ◌≡◌, ◌∙◌, ◌+◌, ◌*◌, ap, ℕ}
use Rattle.std.specs.Prelude.{count_by}
use Rattle.elimination.specs.Stages.{bounds_above, bounds_below, is_without}
use Rattle.elimination.proofs.Counting.{paired_count, substituted_count}
use Rattle.elimination.proofs.rows.made_count.Goals as goal

pub returns-then-first_equality-rows : goal.returns-then-first_equality-rows
returns-then-first_equality-rows c = let e = substituted_count c.args.var c.args.rows.now c.first_equality.result c.first_equality.ensures c.if-first_equality-rows.true in omega (arith, e)

pub returns : goal.returns
returns c =
    let e = paired_count c.args.var c.args.rows.now c.first_equality.result c.first_equality.ensures c.if-first_equality-rows.false in
    let w : c.without_count.result + c.below_count.result * c.above_count.result ≡ count_by (is_without c.args.var) c.args.rows.now + count_by (bounds_below c.args.var) c.args.rows.now * count_by (bounds_above c.args.var) c.args.rows.now =
    ap (λ (n : ℕ). n + c.below_count.result * c.above_count.result) c.without_count.ensures
    ∙ (ap (λ (n : ℕ). count_by (is_without c.args.var) c.args.rows.now + n * c.above_count.result) c.below_count.ensures
    ∙ ap (λ (n : ℕ). count_by (is_without c.args.var) c.args.rows.now + count_by (bounds_below c.args.var) c.args.rows.now * n) c.above_count.ensures) in
    w ∙ e
