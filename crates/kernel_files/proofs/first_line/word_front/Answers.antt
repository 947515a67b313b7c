use Rattle.std.proofs.Common.{List, ℕ, subst, sym}
use Rattle.std.specs.Str.{IsUtf8}
use Rattle.kernel_files.proofs.FirstWords.{front_is_utf8}
use Rattle.kernel_files.proofs.first_line.word_front.Goals as goal

pub unreachable-requires : goal.unreachable-requires
unreachable-requires c = c.in-Err.ensures.cases.0 (subst (λ (bytes : List ℕ). IsUtf8 bytes) (sym c.count_word.ensures.word) (front_is_utf8 c.args.text.now))
