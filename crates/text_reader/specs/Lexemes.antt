-- Lexemes: blanks, comments, words, numbers, signs and line feeds, each as long as it can be.
use Rattle.std.specs.Prelude.{◌≡◌, ℕ, ◌<◌, Bool, true, false, not, ◌&&◌, ◌==◌, List, [], ◌∷◌, ◌++◌, length, Option, Some, None}
use Rattle.std.specs.Char.{to_ascii_lowercase}
use Rattle.text_reader.specs.declared.form.Form.{Form}
use Rattle.text_reader.specs.declared.form.Form.TheVariants.{Kernel, Fortran, Words}
use Rattle.text_reader.specs.declared.token.Class.TheVariants.{Word, Number, Sign, LineEnd}
use Rattle.text_reader.specs.declared.lexeme.Piece.{Piece}
use Rattle.text_reader.specs.declared.lexeme.Piece.TheVariants.{Blank, Comment, Token}
use Rattle.text_reader.specs.Bytes.{is_feed, is_words, kind_at, goes_on}
use Rattle.text_reader.specs.Signs.{is_single, is_pair}

-- the one piece that can stand at the front
abbrev pub kind_of : Form → List ℕ → Option Piece
kind_of form [] = None
kind_of form (c ∷ cs) = Some (kind_at form c (is_feed cs))

-- the bytes do not go on with a comment, word or number
abbrev pub ends : Form → Piece → List ℕ → Bool
ends form piece [] = true
ends form piece (c ∷ cs) = not (goes_on form piece c (is_feed cs))

-- before the rest, the text is the whole of a comment, word or number
abbrev pub is_run : Form → Piece → List ℕ → List ℕ → Bool
is_run form piece [] rest = ends form piece rest
is_run form piece (c ∷ cs) rest = goes_on form piece c (is_feed (cs ++ rest)) && is_run form piece cs rest

-- a byte, in lower case where the form takes letters so
abbrev pub folded : Form → ℕ → ℕ
folded Kernel c = c
folded Fortran c = to_ascii_lowercase c
folded Words c = c

-- The program keeps the words that begin with `lp_` for itself. In scripts no word is kept.
abbrev pub is_kept : Form → List ℕ → Bool
is_kept form [] = false
is_kept form (a ∷ []) = false
is_kept form (a ∷ b ∷ []) = false
is_kept form (a ∷ b ∷ c ∷ cs) = not (is_words form) && ((folded form a == 108) && ((folded form b == 112) && (c == 95)))

-- the sign does not go on with the rest
abbrev pub lacks_pair : Form → ℕ → List ℕ → Bool
lacks_pair form c [] = true
lacks_pair form c (d ∷ ds) = not (is_pair form c d)

-- Before the rest, the text is the longest sign. No sign has more than two bytes.
abbrev pub IsSign : Form → List ℕ → List ℕ → Type 0
IsSign form [] rest = ⊥
IsSign form (c ∷ []) rest = (is_single form c ≡ true) × (lacks_pair form c rest ≡ true)
IsSign form (c ∷ d ∷ []) rest = is_pair form c d ≡ true
IsSign form (c ∷ d ∷ e ∷ es) rest = ⊥

-- Before the rest, the text is the whole of the piece: blanks and line feeds are single bytes.
abbrev pub IsWhole : Form → Piece → List ℕ → List ℕ → Type 0
IsWhole form Blank text rest = length text ≡ 1
IsWhole form Comment text rest = is_run form Comment text rest ≡ true
IsWhole form (Token Word) text rest = (is_run form (Token Word) text rest ≡ true) × (is_kept form text ≡ false)
IsWhole form (Token Number) text rest = is_run form (Token Number) text rest ≡ true
IsWhole form (Token Sign) text rest = IsSign form text rest
IsWhole form (Token LineEnd) text rest = length text ≡ 1

-- Before the rest, the text is a lexeme.
pub record IsLexeme (form : Form) (piece : Piece) (text rest : List ℕ) : Type 0 where
  pub some : 0 < length text
  pub kind : kind_of form (text ++ rest) ≡ Some piece
  pub whole : IsWhole form piece text rest

-- a lexeme with its bytes
pub record Lexed : Type 0 where
  pub piece : Piece
  pub text : List ℕ

-- the bytes of lexemes
abbrev pub text_of : List Lexed → List ℕ
text_of [] = []
text_of (x ∷ xs) = x.text ++ text_of xs

-- Before the rest, these are lexemes, one after the other.
abbrev pub AreLexemes : Form → List Lexed → List ℕ → Type 0
AreLexemes form [] rest = Unit {0}
AreLexemes form (x ∷ xs) rest = IsLexeme form x.piece x.text (text_of xs ++ rest) × AreLexemes form xs rest
