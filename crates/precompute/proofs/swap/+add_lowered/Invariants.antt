use Rattle.std.proofs.Common.{length}
use Rattle.precompute.proofs.swap.+add_lowered.Given as goal

abbrev pub decreases-add_lowered : goal.decreases-add_lowered
decreases-add_lowered l = length l.place.now
