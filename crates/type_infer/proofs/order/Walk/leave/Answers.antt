use Rattle.std.proofs.Common.{sym, subst, ◌<◌, length, rules}
use Rattle.std.proofs.Math.ListN.{set}
use Rattle.type_infer.specs.declared.order.Mark.TheVariants.{Open, Done}
use Rattle.type_infer.specs.Orders.{Goes}
use Rattle.std.proofs.lemmas.Option.{slice_get_within}
use Rattle.type_infer.proofs.Walks.{leaves, here_open}
use Rattle.type_infer.proofs.order.Walk.leave.Goals as goal

pub index_mut-requires : goal.index_mut-requires
index_mut-requires c =
    let before = c.args.self.now in
    let h : c.args.rule < length before.marks.items = slice_get_within before.marks.items c.args.rule Open
    (here_open c.args.uses.now before.marks.items c.args.rule c.requires.rules c.requires.acyclic before.way.items before.order.items c.requires.walk c.requires.through) in
    search (rules, h)

pub returns : goal.returns
returns c =
    let before = c.args.self.now in
    record {
      goes = subst (λ order. Goes c.args.uses.now before.marks.items (set before.marks.items c.args.rule Done) before.way.items order) (sym c.in_ok-push.ensures.items)
          (leaves c.args.uses.now before.marks.items c.args.rule c.requires.rules c.requires.acyclic before.way.items before.order.items c.requires.walk c.requires.through);
    }
