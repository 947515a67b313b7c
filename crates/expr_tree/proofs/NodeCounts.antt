-- The nodes that are made anew over a choice.
use Rattle.std.specs.Prelude.{◌≡◌, ℕ, ◌+◌, ◌≤◌, Bool, true, false, if◌then◌else◌}
use Rattle.std.proofs.Common.{arith, ap, sym, ◌∙◌, subst}
use Rattle.expr_tree.specs.declared.tree.Node.{Node, out-Node, map-Node, fold_out-Node}
use Rattle.expr_tree.specs.declared.tree.Node.TheOpen.{Node-F}
use Rattle.expr_tree.specs.declared.tree.Node.TheVariants.{Pick, outs-Pick}
use Rattle.expr_tree.specs.declared.tree.Test.{Test}
use Rattle.expr_tree.specs.declared.tree.Expr.{Expr, fold_out-Expr}
use Rattle.expr_tree.specs.Trees.{node_of}
use Rattle.expr_tree.specs.Rewritten.{Rules, Outcome, node_outcome, test_outcome, expr_outcome, outcome_of, outcome_of_node, outcome_of_test}

grown : (changed : Bool) (n : ℕ) → n ≤ (if changed then n + 1 else n)
grown true n = omega arith
grown false n = omega arith

pub nodes_in_Pick : (r : Rules) (e : Expr) (n : Node) (t : Test) (a b : Expr) → n ≡ node_of e → n ≡ Pick t a b → (outcome_of_test r t).nodes + ((outcome_of r a).nodes + (outcome_of r b).nodes) ≤ (outcome_of r e).nodes
nodes_in_Pick r e n t a b node is =
    let layer : out-Node (node_of e) ≡ Node-F.Pick t a b = ap out-Node (sym node ∙ is) ∙ outs-Pick t a b in
    let outcome : outcome_of r e ≡ node_outcome r (Node-F.Pick (outcome_of_test r t) (outcome_of r a) (outcome_of r b)) =
    fold_out-Expr (Outcome Expr) (Outcome Test) (Outcome Expr) (node_outcome r) (test_outcome r) expr_outcome e
    ∙ (fold_out-Node (Outcome Expr) (Outcome Test) (Outcome Expr) (node_outcome r) (test_outcome r) expr_outcome (node_of e)
    ∙ ap (λ (y : Node-F Node Test Expr). node_outcome r (map-Node _ _ _ _ _ _ (outcome_of_node r) (outcome_of_test r) (outcome_of r) y)) layer) in
    subst (λ (o : Outcome Expr). (outcome_of_test r t).nodes + ((outcome_of r a).nodes + (outcome_of r b).nodes) ≤ o.nodes) (sym outcome)
    (grown (node_outcome r (Node-F.Pick (outcome_of_test r t) (outcome_of r a) (outcome_of r b))).changed ((outcome_of_test r t).nodes + ((outcome_of r a).nodes + (outcome_of r b).nodes)))
