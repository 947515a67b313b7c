use Rattle.std.proofs.Common.{◌≡◌, ℕ, true, false, slice_get, sum_by}
use Rattle.type_infer.specs.Orders.{IsWalk, is_new, weight}
use Rattle.type_infer.proofs.order.Walk.visit.Given as goal

abbrev pub invariant-walk : goal.invariant-walk
invariant-walk l = record {
  walk : IsWalk l.uses l.self.marks.items l.self.way.items l.self.order.items;
  visited : is_new (slice_get l.self.marks.items l.fn.rule) ≡ false;
  new_before : (r : ℕ) → is_new (slice_get l.self.marks.items r) ≡ true → is_new (slice_get l.fn.self.marks.items r) ≡ true;
}

abbrev pub decreases-walk : goal.decreases-walk
decreases-walk l = sum_by weight l.self.marks.items
