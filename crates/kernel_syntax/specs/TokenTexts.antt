-- Bytes as texts of tokens that hold their bytes.
use Rattle.std.specs.Prelude.{◌≡◌, ◌⊎◌, ℕ, Bool, true, false, not, ◌==◌, List, [], ◌∷◌, ◌++◌}
use Rattle.text_reader.specs.declared.form.Form.TheVariants.{Kernel}
use Rattle.text_reader.specs.declared.token.Token.{Token}
use Rattle.text_reader.specs.declared.lexeme.Piece.{Piece}
use Rattle.text_reader.specs.declared.lexeme.Piece.TheVariants as piece
use Rattle.text_reader.specs.Lexemes.{Lexed, text_of, AreLexemes}
use Rattle.text_reader.specs.Spelling.{IsWord, IsDigits, is_sign}
use Rattle.text_reader.specs.Tokens.{IsTokensOf}
use Rattle.kernel_grammar.specs.Lexicals.{Lexical, word, number, sign, line_end, is_inner, lexical, lexicals}

-- The bytes are a text of these tokens.
pub record IsTextOf (bytes : List ℕ) (text : List Lexical) : Type 0 where
  pub tokens : List Token
  pub are : IsTokensOf Kernel bytes tokens
  pub spelled : lexicals bytes tokens ≡ text

-- the token that a lexeme is; blanks and comments are none
abbrev pub lexical_of : Piece → List ℕ → List Lexical
lexical_of piece.Blank text = []
lexical_of piece.Comment text = []
lexical_of (piece.Token class) text = lexical class text ∷ []

-- the tokens of lexemes
abbrev pub lexicals_of : List Lexed → List Lexical
lexicals_of [] = []
lexicals_of (x ∷ xs) = lexical_of x.piece x.text ++ lexicals_of xs

-- Before the rest, the front is whole lexemes with these tokens.
pub record IsFrontOf (front rest : List ℕ) (text : List Lexical) : Type 0 where
  pub lexemes : List Lexed
  pub whole : text_of lexemes ≡ front
  pub are : AreLexemes Kernel lexemes rest
  pub listed : text ≡ lexicals_of lexemes

-- the lexeme is no comment and no carriage return
abbrev pub takes_blank : Piece → List ℕ → Bool
takes_blank piece.Comment text = false
takes_blank (piece.Token class) text = true
takes_blank piece.Blank [] = true
takes_blank piece.Blank (c ∷ text) = not (c == 13)

-- the last lexeme is no comment and no carriage return
abbrev pub ends_in_token : List Lexed → Bool
ends_in_token [] = true
ends_in_token (x ∷ []) = takes_blank x.piece x.text
ends_in_token (x ∷ y ∷ xs) = ends_in_token (y ∷ xs)

-- Before the rest, the front is whole lexemes with these tokens, and a blank can stand behind it.
pub record TakesBlank (front rest : List ℕ) (text : List Lexical) : Type 0 where
  pub is : IsFrontOf front rest text
  pub last : ends_in_token is.lexemes ≡ true

-- The rest of a text behind these tokens.
pub record IsRest (front : List Lexical) (rest : List ℕ) (text : List Lexical) : Type 0 where
  pub more : List Lexical
  pub are : IsTextOf rest more
  pub split : text ≡ front ++ more

-- The token's bytes are what its class says.
abbrev pub IsWell : Lexical → Type 0
IsWell (word text) = IsWord Kernel text
IsWell (number digits) = IsDigits digits
IsWell (sign text) = is_sign Kernel text ≡ true
IsWell line_end = Unit {0}

-- The bytes of each token are what its class says.
abbrev pub AreWell : List Lexical → Type 0
AreWell [] = Unit {0}
AreWell (x ∷ xs) = IsWell x × AreWell xs

-- the bytes of a token
abbrev pub written : Lexical → List ℕ
written (word text) = text
written (number digits) = digits
written (sign text) = text
written line_end = 10 ∷ []

-- a blank behind a token that ends no line
abbrev pub spaced : Lexical → List ℕ → List ℕ
spaced (word text) rest = 32 ∷ rest
spaced (number digits) rest = 32 ∷ rest
spaced (sign text) rest = 32 ∷ rest
spaced line_end rest = rest

-- the bytes of tokens
abbrev pub spelled : List Lexical → List ℕ
spelled [] = []
spelled (x ∷ xs) = written x ++ spaced x (spelled xs)

-- the last token ends a line
abbrev pub is_ended : List Lexical → Bool
is_ended [] = false
is_ended (x ∷ []) = not (is_inner x)
is_ended (x ∷ y ∷ xs) = is_ended (y ∷ xs)

-- The bytes are those of the token: before a line feed a carriage return may stand.
abbrev pub Writes : Lexical → List ℕ → Type 0
Writes x bytes = (bytes ≡ written x) ⊎ ((x ≡ line_end) × (bytes ≡ 13 ∷ 10 ∷ []))
