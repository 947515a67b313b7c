use Rattle.std.proofs.Common.{length}
use Rattle.kernel_limits.proofs.sizes.+joins.Given as goal

abbrev pub decreases-joins : goal.decreases-joins
decreases-joins l = length l.entries.now
