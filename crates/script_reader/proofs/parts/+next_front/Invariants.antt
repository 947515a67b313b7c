use Rattle.std.proofs.Common.{length}
use Rattle.script_reader.proofs.parts.+next_front.Given as goal

abbrev pub decreases-next_front : goal.decreases-next_front
decreases-next_front l = length l.parts.now
