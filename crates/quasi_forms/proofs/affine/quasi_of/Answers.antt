use Rattle.quasi_forms.proofs.AffineValues.{made_means}
use Rattle.quasi_forms.proofs.affine.quasi_of.Goals as goal

pub returns-clause-value : goal.returns-clause-value
returns-clause-value c = made_means c.args.expr.now _ _ c.in_ok-made_of.ensures.made
