use Rattle.std.proofs.Common.{Option, unwrap_or, sym, ap, ◌∙◌}
use Rattle.expr_tree.specs.declared.tree.Test.{Test}
use Rattle.expr_tree.proofs.ValueLaw.{equal_test_keeps}
use Rattle.expr_tree.proofs.tree.Test.rewrite.Goals as goal

pub returns-in-Some-clause-value : goal.returns-in-Some-clause-value
returns-in-Some-clause-value g c =
    equal_test_keeps (g.R.Rewriting.rules c.args.by.now) c.args.self.now c.in-Some.test
    (sym (ap (λ (o : Option Test). unwrap_or o c.args.self.now) c.in-Some.is) ∙ c.in_ok-test.ensures.new) c.in_ok-test.ensures.fits

pub returns-in_ok-copy-in-None-clause-value : goal.returns-in_ok-copy-in-None-clause-value
returns-in_ok-copy-in-None-clause-value g c =
    equal_test_keeps (g.R.Rewriting.rules c.args.by.now) c.args.self.now c.in_ok-copy-in-None.field-0
    (c.in_ok-copy-in-None.ensures ∙ (sym (ap (λ (o : Option Test). unwrap_or o c.args.self.now) c.in-None.is) ∙ c.in_ok-test.ensures.new)) c.in_ok-test.ensures.fits
