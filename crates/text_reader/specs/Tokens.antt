-- The tokens of a text.
use Rattle.std.specs.Prelude.{◌≡◌, ℕ, ◌+◌, ◌≤◌, List, [], ◌∷◌, ◌++◌, length, if◌then◌else◌, nat_lt}
use Rattle.text_reader.specs.declared.form.Form.{Form}
use Rattle.text_reader.specs.declared.token.Class.{Class}
use Rattle.text_reader.specs.declared.token.Class.TheVariants.{Word, Number, Sign, LineEnd}
use Rattle.text_reader.specs.declared.token.Token.{Token}
use Rattle.text_reader.specs.declared.lexeme.Piece.{Piece}
use Rattle.text_reader.specs.declared.lexeme.Piece.TheVariants as piece
use Rattle.text_reader.specs.declared.place.Place.{Place}
use Rattle.text_reader.specs.Lexemes.{Lexed, text_of, AreLexemes}

-- where a text begins
abbrev pub origin : Place
origin = record { line = 1; start = 0; at = 0 }

-- the place behind a token of so many bytes: a line feed begins a line
abbrev pub behind_token : Place → Class → ℕ → Place
behind_token p Word count = record { line = p.line; start = p.start; at = p.at + count }
behind_token p Number count = record { line = p.line; start = p.start; at = p.at + count }
behind_token p Sign count = record { line = p.line; start = p.start; at = p.at + count }
behind_token p LineEnd count = record { line = p.line + 1; start = p.at + count; at = p.at + count }

-- the place behind a lexeme of so many bytes
abbrev pub behind : Place → Piece → ℕ → Place
behind p piece.Blank count = record { line = p.line; start = p.start; at = p.at + count }
behind p piece.Comment count = record { line = p.line; start = p.start; at = p.at + count }
behind p (piece.Token class) count = behind_token p class count

-- the place behind lexemes
abbrev pub behind_all : Place → List Lexed → Place
behind_all p [] = p
behind_all p (x ∷ xs) = behind_all (behind p x.piece (length x.text)) xs

-- the token that a lexeme of so many bytes is; blanks and comments are none
abbrev pub token_of : Place → Piece → ℕ → List Token
token_of p piece.Blank count = []
token_of p piece.Comment count = []
token_of p (piece.Token class) count = record { line = p.line; from = p.at; to = p.at + count; class = class } ∷ []

-- the tokens of lexemes
abbrev pub tokens_of : Place → List Lexed → List Token
tokens_of p [] = []
tokens_of p (x ∷ xs) = token_of p x.piece (length x.text) ++ tokens_of (behind p x.piece (length x.text)) xs

-- the end of a last line without a line feed, which has something on it
abbrev pub last_end : Place → List Token
last_end p = if nat_lt p.start p.at then record { line = p.line; from = p.at; to = p.at; class = LineEnd } ∷ [] else []

-- The token's bytes are bytes of the text.
pub record IsWithin (bytes : List ℕ) (token : Token) : Type 0 where
  pub ordered : token.from ≤ token.to
  pub inside : token.to ≤ length bytes

-- These are the tokens of the bytes.
pub record IsTokensOf (form : Form) (bytes : List ℕ) (tokens : List Token) : Type 0 where
  pub lexemes : List Lexed
  pub text : text_of lexemes ≡ bytes
  pub are : AreLexemes form lexemes []
  pub listed : tokens ≡ tokens_of origin lexemes ++ last_end (behind_all origin lexemes)
