use Rattle.std.proofs.Common.{length}
use Rattle.loopw_core.proofs.reading.+read_sources.Given as goal

abbrev pub decreases-read_sources : goal.decreases-read_sources
decreases-read_sources g l = length l.sources.now
