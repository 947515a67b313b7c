use Rattle.std.proofs.Common.{length}
use Rattle.refusal_lines.proofs.keeping.+add_children.Given as goal

abbrev pub decreases-add_children : goal.decreases-add_children
decreases-add_children l = length l.names.now
