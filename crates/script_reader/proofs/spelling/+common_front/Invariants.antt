use Rattle.std.proofs.Common.{length}
use Rattle.script_reader.proofs.spelling.+common_front.Given as goal

abbrev pub decreases-common_front : goal.decreases-common_front
decreases-common_front l = length l.left.now
