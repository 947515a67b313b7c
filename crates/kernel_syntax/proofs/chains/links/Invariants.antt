use Rattle.std.proofs.Common.{◌-◌, length}
use Rattle.kernel_expressions.specs.Texts.{texts, IsFit}
use Rattle.kernel_syntax.specs.Parts.{IsLinks}
use Rattle.kernel_expressions.specs.Reads.{Reads}
use Rattle.kernel_syntax.proofs.ChainEnds.{links_to}
use Rattle.kernel_syntax.proofs.chains.links.Given as goal

abbrev pub invariant-links : goal.invariant-links
invariant-links l = Reads (texts l.lexemes) l.fn.at l.at (IsLinks (IsFit (texts l.lexemes)) l.links) × links_to (texts l.lexemes) l.fn.at l.at

abbrev pub decreases-links : goal.decreases-links
decreases-links l = length l.lexemes - l.at
