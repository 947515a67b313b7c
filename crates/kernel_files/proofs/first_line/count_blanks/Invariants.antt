use Rattle.std.proofs.Common.{◌≡◌, drop}
use Rattle.kernel_files.specs.FirstLine.{behind_blanks}
use Rattle.kernel_files.proofs.first_line.count_blanks.Given as goal

abbrev pub invariant-text : goal.invariant-text
invariant-text l = behind_blanks (drop l.at l.text) ≡ behind_blanks l.text
