use Rattle.std.proofs.Common.{length}
use Rattle.fortran_syntax.proofs.expression.end_tight.Given as goal

abbrev pub decreases-frames : goal.decreases-frames
decreases-frames l = length l.frames.items
