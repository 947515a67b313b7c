use Rattle.std.proofs.Common.{length}
use Rattle.kernel_limits.proofs.temps.+cell_count.Given as goal

abbrev pub decreases-cell_count : goal.decreases-cell_count
decreases-cell_count l = length l.shape.now
