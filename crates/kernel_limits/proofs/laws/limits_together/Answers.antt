use Rattle.kernel_limits.proofs.Together.{together}
use Rattle.kernel_limits.proofs.laws.limits_together.Goals as goal

pub returns : goal.returns
returns c = together
