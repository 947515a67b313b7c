use Rattle.std.proofs.lemmas.Nat.Gcd.{IsGcd-from_mod, IsGcd-from_zero}
use Rattle.affine_rows.proofs.Divisors.{greatest_divisor-is}
use Rattle.affine_rows.proofs.divide.greatest_divisor.Goals as goal

pub steps-preserved : goal.steps-preserved
steps-preserved c g is = c.steps.invariant g (IsGcd-from_mod c.steps.first c.steps.second g is)

pub returns : goal.returns
returns c = greatest_divisor-is c.args.a c.args.b c.steps.first (c.steps.invariant c.steps.first (IsGcd-from_zero c.steps.first c.steps.second c.steps-test.false))
