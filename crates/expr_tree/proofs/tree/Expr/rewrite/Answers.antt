use Rattle.std.proofs.Common.{Option, unwrap_or, sym, ap, ◌∙◌}
use Rattle.expr_tree.specs.declared.tree.Expr.{Expr}
use Rattle.expr_tree.proofs.ValueLaw.{equal_keeps}
use Rattle.expr_tree.proofs.tree.Expr.rewrite.Goals as goal

pub returns-in-Some-clause-value : goal.returns-in-Some-clause-value
returns-in-Some-clause-value g c =
    equal_keeps (g.R.Rewriting.rules c.args.by.now) c.args.self.now c.in-Some.tree
    (sym (ap (λ (o : Option Expr). unwrap_or o c.args.self.now) c.in-Some.is) ∙ c.in_ok-tree.ensures.new) c.in_ok-tree.ensures.fits

pub returns-in_ok-copy-in-None-clause-value : goal.returns-in_ok-copy-in-None-clause-value
returns-in_ok-copy-in-None-clause-value g c =
    equal_keeps (g.R.Rewriting.rules c.args.by.now) c.args.self.now c.in_ok-copy-in-None.field-0
    (c.in_ok-copy-in-None.ensures ∙ (sym (ap (λ (o : Option Expr). unwrap_or o c.args.self.now) c.in-None.is) ∙ c.in_ok-tree.ensures.new)) c.in_ok-tree.ensures.fits
