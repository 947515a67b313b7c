use Rattle.std.proofs.Common.{rules}
use Rattle.kernel_limits.proofs.Steps.{sized_if}
use Rattle.kernel_limits.proofs.limits.check_limits.Goals as goal

pub returns-clause-within : goal.returns-clause-within
returns-clause-within c = sized_if c.args.kernel.now c.check_insns.result c.check_insns.ensures.forms (search rules)
