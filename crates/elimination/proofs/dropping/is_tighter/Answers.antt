use Rattle.std.proofs.Common.{refl, sym, ◌∙◌, ap, true, false}
use Rattle.std.specs.Ordering.{is_eq, is_le}
use Rattle.elimination.specs.Orders.{bound_cmp}
use Rattle.elimination.proofs.Sorting.{tighter_from}
use Rattle.elimination.proofs.dropping.is_tighter.Goals as goal

pub returns-then-is_eq : goal.returns-then-is_eq
returns-then-is_eq c = tighter_from c.args.first.now c.args.second.now true c.is_le.result (sym c.if-is_eq.true ∙ (c.is_eq.ensures ∙ ap is_eq c.direction_order.ensures)) (c.is_le.ensures ∙ ap is_le c.bound_order.ensures)

pub returns-else-is_eq : goal.returns-else-is_eq
returns-else-is_eq c = c.if-is_eq.false ∙ tighter_from c.args.first.now c.args.second.now false (is_le (bound_cmp c.args.first.now c.args.second.now)) (sym c.if-is_eq.false ∙ (c.is_eq.ensures ∙ ap is_eq c.direction_order.ensures)) refl
