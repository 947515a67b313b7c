use Rattle.std.proofs.Common.{◌≡◌, ℕ, ◌<◌, false, [], slice_get}
use Rattle.type_infer.specs.Orders.{IsWalk, is_new}
use Rattle.type_infer.proofs.order.call_order.Given as goal

abbrev pub invariant-loop-rule : goal.invariant-loop-rule
invariant-loop-rule l = record {
  walk : IsWalk l.uses l.walk.marks.items [] l.walk.order.items;
  ended : l.walk.way.items ≡ [];
  seen : (r : ℕ) → r < l.rule → is_new (slice_get l.walk.marks.items r) ≡ false;
}
