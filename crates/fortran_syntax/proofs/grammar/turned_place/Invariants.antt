use Rattle.std.proofs.Common.{length}
use Rattle.fortran_syntax.proofs.grammar.turned_place.Given as goal

abbrev pub decreases-values : goal.decreases-values
decreases-values l = length l.values.items
