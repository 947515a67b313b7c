use Rattle.std.proofs.Common.{arith, ap, ◌∙◌}
use Rattle.expr_tree.specs.declared.tree.Expr.{Expr}
use Rattle.expr_tree.specs.Rewritten.{replaced_above}
use Rattle.expr_tree.specs.Samples.{renaming, sample_place}
use Rattle.expr_tree.proofs.SampleTrees.{replaced_steps, kept_steps}
use Rattle.tree_tests.proofs.trees.renamed.Goals as goal

pub returns-clause-replaced : goal.returns-clause-replaced
returns-clause-replaced g c zero =
    let nodes = ap (λ (e : Expr). replaced_above (renaming c.args.by.now.from) e) c.in_ok-tree.ensures.tree ∙ replaced_steps c.args.by.now.from sample_place zero in
    omega (arith, nodes, c.in_ok-tree.ensures.counted, c.in_ok-rewritten.ensures.counted)

pub returns-clause-kept : goal.returns-clause-kept
returns-clause-kept g c five =
    let nodes = ap (λ (e : Expr). replaced_above (renaming c.args.by.now.from) e) c.in_ok-tree.ensures.tree ∙ kept_steps c.args.by.now.from sample_place five in
    omega (arith, nodes, c.in_ok-tree.ensures.counted, c.in_ok-rewritten.ensures.counted)
