-- The place of a token that is refused, and its bytes.
use Rattle.std.specs.Prelude.{◌≡◌, ℕ, ◌+◌, ◌≤◌, ◌<◌, Bool, true, false, ◌==◌, ◌||◌, List, [], ◌∷◌, ◌++◌, length, take, drop, Some, slice_get, min}
use Rattle.std.specs.List.{list_all}
use Rattle.text_reader.specs.declared.form.Form.TheVariants.{Kernel}
use Rattle.text_reader.specs.declared.fault.TextFault.{TextFault}
use Rattle.text_reader.specs.declared.fault.TextFault.TheVariants.{OutOfMemory, Syntax, Limit}
use Rattle.text_reader.specs.declared.token.Class.{Class}
use Rattle.text_reader.specs.declared.token.Class.TheVariants.{Word, Number, Sign, LineEnd}
use Rattle.text_reader.specs.declared.token.Token.{Token}
use Rattle.text_reader.specs.Faults.{EndsIn}
use Rattle.text_reader.specs.Limits.{bytes_of}
use Rattle.text_reader.specs.declared.place.Place.{Place}
use Rattle.text_reader.specs.Progress.{IsReadTo, LacksLexeme}
use Rattle.kernel_grammar.specs.Files.{file_text}
use Rattle.kernel_grammar.specs.Lexicals.{lexicals}
use Rattle.kernel_expressions.specs.Settled.{Begins, Spells}
use Rattle.kernel_syntax.specs.Refusals.{IsNoFile}
use Rattle.kernel_syntax.specs.FileParts.{RefusesFile}

-- The fault is one of the syntax at the end of the bytes.
abbrev pub IsAtEnd : List ℕ → TextFault → Type 0
IsAtEnd bytes OutOfMemory = ⊥
IsAtEnd bytes (Syntax line count) = EndsIn line count bytes
IsAtEnd bytes (Limit line) = ⊥

-- a space or a tab
abbrev pub is_space : ℕ → Bool
is_space c = (c == 32) || (c == 9)

-- a space or a tab stands at the front
abbrev pub is_spaced : List ℕ → Bool
is_spaced [] = false
is_spaced (c ∷ cs) = is_space c

-- From one place of the bytes to the other stand spaces and tabs, as many as they are.
pub record IsBlankTo (bytes : List ℕ) (from to : ℕ) : Type 0 where
  pub spaces : List ℕ
  pub are : list_all is_space spaces ≡ true
  pub split : drop from bytes ≡ spaces ++ drop to bytes
  pub long : to ≡ from + length spaces

-- The place is behind the token before.
pub record IsBehindBefore (tokens : List Token) (at place : ℕ) : Type 0 where
  pub none : at ≡ 0 → place ≡ 0
  pub some : (before : ℕ) (token : Token) → at ≡ before + 1 → slice_get tokens before ≡ Some token → place ≡ token.to

-- The place is behind the spaces behind the token before, and there are no bytes of the token.
pub record IsLineRefused (bytes : List ℕ) (tokens : List Token) (at place : ℕ) (text : List ℕ) : Type 0 where
  pub from : ℕ
  pub behind : IsBehindBefore tokens at from
  pub blank : from ≤ length bytes → IsBlankTo bytes from place
  pub all : is_spaced (drop place bytes) ≡ false
  pub none : text ≡ []

-- The place and the bytes are those of the token; a line's end begins behind the token before.
abbrev pub IsRefusedAs : Class → List ℕ → List Token → ℕ → Token → ℕ → List ℕ → Type 0
IsRefusedAs LineEnd bytes tokens at token place text = IsLineRefused bytes tokens at place text
IsRefusedAs Word bytes tokens at token place text = (place ≡ token.from) × (text ≡ bytes_of bytes token)
IsRefusedAs Number bytes tokens at token place text = (place ≡ token.from) × (text ≡ bytes_of bytes token)
IsRefusedAs Sign bytes tokens at token place text = (place ≡ token.from) × (text ≡ bytes_of bytes token)

-- What is read of bytes that are no text of tokens.
pub record IsReadStuck (bytes : List ℕ) (tokens : List Token) (left : ℕ × ℕ) : Type 0 where
  pub place : Place
  pub is : IsReadTo Kernel bytes (drop place.at bytes) place tokens
  pub none : LacksLexeme Kernel (drop place.at bytes)
  pub short : place.at < length bytes
  pub bounds : left ≡ (place.at, min (place.at + 2) (length bytes))
  pub no_file : IsNoFile bytes

-- What is read of bytes that are no text of tokens, and where the tokens are refused.
pub record IsReadRefused (bytes : List ℕ) (tokens : List Token) (at : ℕ) (left : ℕ × ℕ) : Type 0 where
  pub stuck : IsReadStuck bytes tokens left
  pub within : at ≤ length (lexicals bytes tokens)
  pub begun : Begins (Spells file_text) (take at (lexicals bytes tokens))
  pub refused : at < length tokens → RefusesFile (lexicals bytes tokens) at
