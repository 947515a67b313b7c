-- Tokens as the grammar has them.
use Rattle.std.specs.Prelude.{◌<◌, ◌^◌, List, map, length}
use Rattle.kind_faults.specs.Words.{kind_word}
use Rattle.kernel_grammar.specs.Lexicals.{Lexical, word, number, sign, line_end}
use Rattle.kernel_expressions.specs.declared.lexeme.Lexeme.{Lexeme}
use Rattle.kernel_expressions.specs.declared.lexeme.Lexeme.TheVariants.{Name, Kind, Key, Number, Sign, LineEnd}
use Rattle.kernel_expressions.specs.Signs.{sign_text}
use Rattle.kernel_expressions.specs.Keys.{key_text}

-- a token as the grammar has it
abbrev pub text_of : Lexeme → Lexical
text_of (Name name) = word name.text.now
text_of (Kind kind) = word (kind_word kind)
text_of (Key key) = word (key_text key)
text_of (Number digits) = number digits.now
text_of (Sign s) = sign (sign_text s)
text_of LineEnd = line_end

-- tokens as the grammar has them
abbrev pub texts : List Lexeme → List Lexical
texts lexemes = map text_of lexemes

-- The tokens are fewer than 2^32.
pub record IsFit (all : List Lexical) : Type 0 where
  pub short : length all < 2 ^ 32
