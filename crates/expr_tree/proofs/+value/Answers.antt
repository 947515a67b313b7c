use Rattle.std.proofs.Common.{rules, ap, sym, ◌∙◌, unwrap_or}
use Rattle.expr_tree.specs.declared.tree.Node.{the_lemmas}
use Rattle.expr_tree.proofs.ValueParts.{has-Neg, has-Inv, has-Bin, has-Pick_then, has-Pick_else, has-Cast, has-node}
use Rattle.expr_tree.proofs.+value.Goals as goal

pub value::node_value-value-requires-in-Neg : goal.value::node_value-value-requires-in-Neg
value::node_value-value-requires-in-Neg g t c κs within =
    let h = has-Neg (g.S.Vars.number c.args.sight.now) (g.S.Sight.store c.args.sight.now) c.args.node.now c.args.kind c.requires c.in-Neg.a c.in-Neg.is in search (rules, the_lemmas, h)

pub value::node_value-value-requires-in-Inv : goal.value::node_value-value-requires-in-Inv
value::node_value-value-requires-in-Inv g t c κs within =
    let h = has-Inv (g.S.Vars.number c.args.sight.now) (g.S.Sight.store c.args.sight.now) c.args.node.now c.args.kind c.requires c.in-Inv.a c.in-Inv.is in search (rules, the_lemmas, h)

pub value::node_value-value-requires-in-Bin : goal.value::node_value-value-requires-in-Bin
value::node_value-value-requires-in-Bin g t c κs within =
    let h = has-Bin (g.S.Vars.number c.args.sight.now) (g.S.Sight.store c.args.sight.now) c.args.node.now c.args.kind c.requires c.in-Bin.op c.in-Bin.a c.in-Bin.b c.in-Bin.is in
    search (rules, the_lemmas, h)

pub value::node_value-value-requires-then-holds : goal.value::node_value-value-requires-then-holds
value::node_value-value-requires-then-holds g t c κs within =
    let h = has-Pick_then (g.S.Vars.number c.args.sight.now) (g.S.Sight.store c.args.sight.now) c.args.node.now c.args.kind c.requires c.in-Pick.test c.in-Pick.a c.in-Pick.b c.in-Pick.is (sym c.holds.ensures ∙ c.if-holds.true) in
    search (rules, the_lemmas, h)

pub value::node_value-value-requires-else-holds : goal.value::node_value-value-requires-else-holds
value::node_value-value-requires-else-holds g t c κs within =
    let h = has-Pick_else (g.S.Vars.number c.args.sight.now) (g.S.Sight.store c.args.sight.now) c.args.node.now c.args.kind c.requires c.in-Pick.test c.in-Pick.a c.in-Pick.b c.in-Pick.is (sym c.holds.ensures ∙ c.if-holds.false) in
    search (rules, the_lemmas, h)

pub value::node_value-value-requires-in-Cast : goal.value::node_value-value-requires-in-Cast
value::node_value-value-requires-in-Cast g t c κs within =
    let h = has-Cast (g.S.Vars.number c.args.sight.now) (g.S.Sight.store c.args.sight.now) c.args.node.now c.args.kind c.requires c.in-Cast.to c.in-Cast.a c.in-Cast.is in
    let from = c.unwrap_or-from.ensures ∙ ap (λ o. unwrap_or o c.in-Cast.to) c.first_kind.ensures in
    let k = rw (← from) at h in
    search (rules, the_lemmas, k)

pub tree::Expr::value-node_value-requires : goal.tree::Expr::value-node_value-requires
tree::Expr::value-node_value-requires g t c κs within =
    let h = has-node (g.S.Vars.number c.args.sight.now) (g.S.Sight.store c.args.sight.now) c.args.self.now c.node.result.now c.args.kind c.node.ensures c.requires in
    search (rules, the_lemmas, h, c.node.ensures)
