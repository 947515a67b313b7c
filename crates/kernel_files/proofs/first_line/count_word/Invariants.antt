use Rattle.std.proofs.Common.{◌≡◌, ◌++◌, take, drop}
use Rattle.kernel_files.specs.FirstLine.{word_front}
use Rattle.kernel_files.proofs.first_line.count_word.Given as goal

abbrev pub invariant-text : goal.invariant-text
invariant-text l = take l.at l.text ++ word_front (drop l.at l.text) ≡ word_front l.text
