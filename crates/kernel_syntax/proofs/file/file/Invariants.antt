use Rattle.std.proofs.Common.{◌-◌, length}
use Rattle.kernel_expressions.specs.Texts.{texts}
use Rattle.kernel_syntax.proofs.FileEnds.{file_to}
use Rattle.kernel_syntax.proofs.FileSteps.{Skips}
use Rattle.kernel_syntax.proofs.file.file.Given as goal

abbrev pub invariant-skipped : goal.invariant-skipped
invariant-skipped l = Skips (texts l.lexemes) l.before l.at × file_to (texts l.lexemes) l.at

abbrev pub decreases-skipped : goal.decreases-skipped
decreases-skipped l = length (texts l.lexemes) - l.at
