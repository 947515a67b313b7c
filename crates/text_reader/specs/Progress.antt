-- How far a text is read, and where it can't be read further.
use Rattle.std.specs.Prelude.{◌≡◌, ℕ, true, not, ◌==◌, List, [], ◌∷◌, ◌++◌, length}
use Rattle.std.specs.List.{list_all}
use Rattle.text_reader.specs.declared.form.Form.{Form}
use Rattle.text_reader.specs.declared.token.Token.{Token}
use Rattle.text_reader.specs.declared.lexeme.Piece.{Piece}
use Rattle.text_reader.specs.declared.place.Place.{Place}
use Rattle.text_reader.specs.Lexemes.{Lexed, IsLexeme, text_of, AreLexemes, ends, lacks_pair}
use Rattle.text_reader.specs.Bytes.{is_feed}
use Rattle.text_reader.specs.Tokens.{origin, behind_all, tokens_of}

-- Lexemes and then the rest are the bytes; these are their tokens, and this is the place behind them.
pub record IsReadTo (form : Form) (bytes rest : List ℕ) (place : Place) (tokens : List Token) : Type 0 where
  pub lexemes : List Lexed
  pub text : text_of lexemes ++ rest ≡ bytes
  pub are : AreLexemes form lexemes rest
  pub stands : place ≡ behind_all origin lexemes
  pub listed : tokens ≡ tokens_of origin lexemes

-- No lexeme stands at the front of the bytes.
abbrev pub LacksLexeme : Form → List ℕ → Type 0
LacksLexeme form bytes = (piece : Piece) (text rest : List ℕ) → text ++ rest ≡ bytes → IsLexeme form piece text rest → ⊥

-- What is a lexeme before the one rest is the same lexeme before the other.
pub record Continues (form : Form) (rest other : List ℕ) : Type 0 where
  pub feed : is_feed rest ≡ is_feed other
  pub ended : (piece : Piece) → ends form piece rest ≡ true → ends form piece other ≡ true
  pub alone : (c : ℕ) → lacks_pair form c rest ≡ true → lacks_pair form c other ≡ true

-- No lexeme stands at the front of the bytes. So many of them can be completed to lexemes, and one more can't.
pub record IsStuck (form : Form) (bytes : List ℕ) (count : ℕ) : Type 0 where
  pub front : List ℕ
  pub rest : List ℕ
  pub text : bytes ≡ front ++ rest
  pub counted : count ≡ length front
  pub within : list_all (λ c. not (c == 10)) front ≡ true
  pub none : LacksLexeme form bytes
  -- lexemes that begin with the front
  pub lexemes : List Lexed
  pub more : List ℕ
  pub completed : text_of lexemes ≡ front ++ more
  pub are : AreLexemes form lexemes []
  pub follows : Continues form bytes (text_of lexemes)
  pub longest : (c : ℕ) (cs other : List ℕ) → rest ≡ c ∷ cs → Continues form bytes (front ++ c ∷ other) × LacksLexeme form (front ++ c ∷ other)
