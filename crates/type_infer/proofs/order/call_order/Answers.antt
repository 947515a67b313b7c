use Rattle.std.proofs.Common.{[], sym, subst, arith, map}
use Rattle.type_infer.specs.declared.order.Mark.TheVariants.{New}
use Rattle.type_infer.specs.Orders.{IsWalk}
use Rattle.type_infer.proofs.Walks.{starts, ordered}
use Rattle.type_infer.proofs.order.call_order.Goals as goal

pub loop-rule-init : goal.loop-rule-init
loop-rule-init c = record {
  walk = subst (λ marks. IsWalk c.args.uses.now marks [] c.new-2.result.items) (sym c.in_ok-new_marks.ensures)
      (subst (λ order. IsWalk c.args.uses.now (map (λ u. New) c.args.uses.now) [] order) (sym c.new-2.ensures.items) (starts c.args.uses.now));
  ended = c.new.ensures.items;
  seen = λ r h. absurd (omega arith);
}

pub returns : goal.returns
returns c = ordered c.args.uses.now c.loop-rule.walk.marks.items c.loop-rule.walk.order.items c.loop-rule.invariant.walk
    (λ rule h. c.loop-rule.invariant.seen rule (omega (arith, h)))
