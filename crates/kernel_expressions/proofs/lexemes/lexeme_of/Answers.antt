use Rattle.kernel_expressions.proofs.Words.{word_is_utf8}
use Rattle.kernel_expressions.proofs.lexemes.lexeme_of.Goals as goal

pub returns-in-Err : goal.returns-in-Err
returns-in-Err c = λ spelled. c.in-Err.ensures.cases.0 (word_is_utf8 _ (rw c.in-Word.is at spelled))
