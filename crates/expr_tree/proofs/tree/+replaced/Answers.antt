use Rattle.std.proofs.Common.{arith, rules, ◌+◌, ◌≤◌}
use Rattle.expr_tree.specs.Rewritten.{replaced_above}
use Rattle.expr_tree.proofs.NodeCounts.{nodes_in_Pick}
use Rattle.expr_tree.proofs.tree.+replaced.Goals as goal

pub Expr::replaced-returns-in_err-new_a-in-Pick-clause-no_more :
    goal.Expr::replaced-returns-in_err-new_a-in-Pick-clause-no_more
Expr::replaced-returns-in_err-new_a-in-Pick-clause-no_more g t c =
    let nodes = nodes_in_Pick (g.R.Rewriting.rules c.args.by.now) c.args.self.now c.node-node.result.now c.in-Pick.test c.in-Pick.a c.in-Pick.b c.node-node.ensures c.in-Pick.is in
    let small : c.replaced-in-Pick-2.new.steps ≤ c.args.steps.now + replaced_above (g.R.Rewriting.rules c.args.by.now) c.args.self.now = omega (arith, nodes, c.in_ok-new_test-in-Pick.ensures.counted, c.in_err-new_a-in-Pick.ensures.no_more) in
    search (rules, small)

pub Expr::replaced-returns-in_err-new_b-in-Pick-clause-no_more :
    goal.Expr::replaced-returns-in_err-new_b-in-Pick-clause-no_more
Expr::replaced-returns-in_err-new_b-in-Pick-clause-no_more g t c =
    let nodes = nodes_in_Pick (g.R.Rewriting.rules c.args.by.now) c.args.self.now c.node-node.result.now c.in-Pick.test c.in-Pick.a c.in-Pick.b c.node-node.ensures c.in-Pick.is in
    let small : c.replaced-in-Pick-3.new.steps ≤ c.args.steps.now + replaced_above (g.R.Rewriting.rules c.args.by.now) c.args.self.now = omega (arith, nodes, c.in_ok-new_test-in-Pick.ensures.counted, c.in_ok-new_a-in-Pick.ensures.counted, c.in_err-new_b-in-Pick.ensures.no_more) in
    search (rules, small)

pub Expr::replaced-returns-in_err-new_trees-in-Pick-clause-no_more :
    goal.Expr::replaced-returns-in_err-new_trees-in-Pick-clause-no_more
Expr::replaced-returns-in_err-new_trees-in-Pick-clause-no_more g t c =
    let nodes = nodes_in_Pick (g.R.Rewriting.rules c.args.by.now) c.args.self.now c.node-node.result.now c.in-Pick.test c.in-Pick.a c.in-Pick.b c.node-node.ensures c.in-Pick.is in
    let small : c.replaced-in-Pick-3.new.steps ≤ c.args.steps.now + replaced_above (g.R.Rewriting.rules c.args.by.now) c.args.self.now = omega (arith, nodes, c.in_ok-new_test-in-Pick.ensures.counted, c.in_ok-new_a-in-Pick.ensures.counted, c.in_ok-new_b-in-Pick.ensures.counted) in
    search (rules, small)
