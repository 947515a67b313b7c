use Rattle.std.proofs.Common.{◌≡◌, ℕ, ◌||◌, take, length}
use Rattle.expr_tree.specs.Scenes.{is_among}
use Rattle.type_infer.specs.Orders.{marked_at}
use Rattle.type_infer.proofs.used.mark.Given as goal

abbrev pub invariant-loop-rule : goal.invariant-loop-rule
invariant-loop-rule l = record {
  each : length l.marks ≡ length l.initial.marks;
  marked : (r : ℕ) → marked_at l.marks r ≡ (marked_at l.initial.marks r || is_among (take l.rule-index l.rules) r);
}
