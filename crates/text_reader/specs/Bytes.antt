-- Classes of bytes, and what a byte begins.
use Rattle.std.specs.Prelude.{ℕ, Bool, true, false, not, ◌&&◌, ◌||◌, ◌==◌, List, [], ◌∷◌, if◌then◌else◌, nat_lt}
use Rattle.std.specs.Char.{is_ascii_alphabetic, is_ascii_digit}
use Rattle.text_reader.specs.declared.form.Form.{Form}
use Rattle.text_reader.specs.declared.form.Form.TheVariants.{Kernel, Fortran, Words}
use Rattle.text_reader.specs.declared.token.Class.TheVariants.{Word, Number, Sign, LineEnd}
use Rattle.text_reader.specs.declared.lexeme.Piece.{Piece}
use Rattle.text_reader.specs.declared.lexeme.Piece.TheVariants.{Blank, Comment, Token}

-- a line feed stands at the front
abbrev pub is_feed : List ℕ → Bool
is_feed [] = false
is_feed (c ∷ cs) = c == 10

-- a space, a tab, or a carriage return that a line feed follows
abbrev pub is_blank : ℕ → Bool → Bool
is_blank c feed = ((c == 32) || (c == 9)) || ((c == 13) && feed)

-- a letter or `_`
abbrev pub begins_word : ℕ → Bool
begins_word c = is_ascii_alphabetic c || (c == 95)

-- a letter, a digit or `_`
abbrev pub is_word_byte : ℕ → Bool
is_word_byte c = begins_word c || is_ascii_digit c

-- `!` in Fortran blocks, else `#`
abbrev pub comment_mark : Form → ℕ
comment_mark Kernel = 35
comment_mark Fortran = 33
comment_mark Words = 35

-- a script
abbrev pub is_words : Form → Bool
is_words Kernel = false
is_words Fortran = false
is_words Words = true

-- the one piece that can begin with the byte; whether a line feed follows decides at a carriage return
abbrev pub kind_at : Form → ℕ → Bool → Piece
kind_at form c feed =
    if is_blank c feed then Blank
    else if c == 10 then Token LineEnd
    else if c == comment_mark form then Comment
    else if is_words form || begins_word c then Token Word
    else if is_ascii_digit c then Token Number
    else Token Sign

-- a byte of a script's word: ASCII, no blank, no line feed and no comment's mark
abbrev pub is_script_byte : ℕ → Bool → Bool
is_script_byte c feed = nat_lt c 128 && not (is_blank c feed || ((c == 10) || (c == 35)))

-- whether a comment, word or number goes on with the byte
abbrev pub goes_on : Form → Piece → ℕ → Bool → Bool
goes_on form Comment c feed = not (c == 10)
goes_on Words (Token Word) c feed = is_script_byte c feed
goes_on Kernel (Token Word) c feed = is_word_byte c
goes_on Fortran (Token Word) c feed = is_word_byte c
goes_on form (Token Number) c feed = is_ascii_digit c
goes_on form (Token Sign) c feed = false
goes_on form (Token LineEnd) c feed = false
goes_on form Blank c feed = false
