use Rattle.std.proofs.Common.{length}
use Rattle.code_grammar.proofs.bounds.put.Given as goal

abbrev pub decreases-lists : goal.decreases-lists
decreases-lists l = length l.open.items
