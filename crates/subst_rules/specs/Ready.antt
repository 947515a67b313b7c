-- Kernels whose expansion is not refused.
use Rattle.kernel_ir.specs.declared.kernel.Kernel.{Kernel}
use Rattle.kernel_ir.specs.Valid.{HasArities, HasNoRuleCycle}
use Rattle.kernel_ir.specs.Limits.{IsWithinLimits}

-- each use has as many arguments as its rule has parameters, no rule reaches itself, and with uses replaced all is within the limits
pub record IsExpandable (K : Kernel) : Type 0 where
  pub arities : HasArities K
  pub acyclic : HasNoRuleCycle K
  pub within : IsWithinLimits K
