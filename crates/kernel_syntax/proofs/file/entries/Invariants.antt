use Rattle.std.proofs.Common.{◌-◌, length}
use Rattle.kernel_expressions.specs.Texts.{texts, IsFit}
use Rattle.kernel_expressions.specs.Reads.{Reads}
use Rattle.kernel_syntax.proofs.FileEnds.{lines_to}
use Rattle.kernel_syntax.proofs.FileSteps.{LinesTo}
use Rattle.kernel_syntax.proofs.file.entries.Given as goal

abbrev pub invariant-lines : goal.invariant-lines
invariant-lines l = Reads (texts l.lexemes) l.fn.at l.at (LinesTo (IsFit (texts l.lexemes)) l.before l.number l.entries) × lines_to (texts l.lexemes) l.fn.at l.at

abbrev pub decreases-lines : goal.decreases-lines
decreases-lines l = length l.lexemes - l.at
