use Rattle.std.proofs.Common.{arith}
use Rattle.first_form.proofs.Fronts.{at_none}
use Rattle.first_form.proofs.Factors.{factor_same, large_not}
use Rattle.first_form.proofs.scan.factor_at.Goals as goal

pub returns-in_err-factor : goal.returns-in_err-factor
returns-in_err-factor c = at_none _ _ _ c.from_residual.ensures (λ factor rest h. let small = h.small in c.in_err-factor.ensures factor (omega arith) (factor_same _ _ _ _ factor c.run.ensures h))

pub returns-else-factor-le-MAX_FACTOR : goal.returns-else-factor-le-MAX_FACTOR
returns-else-factor-le-MAX_FACTOR c = large_not _ _ _ c.in_ok-factor.factor c.run.ensures c.in_ok-factor.ensures (omega arith) (omega arith)
