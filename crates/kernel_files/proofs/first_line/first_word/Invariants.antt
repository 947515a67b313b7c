use Rattle.std.proofs.Common.{◌≡◌, drop}
use Rattle.kernel_files.specs.FirstLine.{first_word}
use Rattle.kernel_files.proofs.first_line.first_word.Given as goal

abbrev pub invariant-text : goal.invariant-text
invariant-text l = first_word (drop l.at l.text) ≡ first_word l.text
