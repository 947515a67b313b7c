use Rattle.std.proofs.Common.{sym, subst}
use Rattle.std.proofs.Math.ListN.{set}
use Rattle.type_infer.specs.declared.order.Mark.TheVariants.{Open}
use Rattle.type_infer.specs.Orders.{Goes}
use Rattle.type_infer.proofs.Walks.{enters, entered}
use Rattle.type_infer.proofs.order.Walk.enter.Goals as goal

pub returns-clause-goes : goal.returns-clause-goes
returns-clause-goes c =
    let before = c.args.self.now in
    subst (λ way. Goes c.args.uses.now before.marks.items (set before.marks.items c.args.rule Open) way before.order.items) (sym c.in_ok-push.ensures.items)
    (enters c.args.uses.now before.marks.items c.args.rule before.way.items before.order.items c.requires.walk c.requires.new c.requires.reached)

pub returns-clause-entered : goal.returns-clause-entered
returns-clause-entered c = entered c.args.uses.now c.args.self.now.marks.items c.args.rule c.requires.new
