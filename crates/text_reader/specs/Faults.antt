-- The place at which bytes stop being a text of tokens.
use Rattle.std.specs.Prelude.{◌≡◌, ℕ, ◌+◌, Bool, true, not, ◌==◌, List, [], ◌∷◌, ◌++◌, length, if◌then◌else◌}
use Rattle.std.specs.List.{list_all}
use Rattle.text_reader.specs.declared.form.Form.{Form}
use Rattle.text_reader.specs.declared.token.Token.{Token}
use Rattle.text_reader.specs.declared.fault.TextFault.{TextFault}
use Rattle.text_reader.specs.declared.fault.TextFault.TheVariants.{OutOfMemory, Syntax, Limit}
use Rattle.text_reader.specs.Tokens.{IsTokensOf}

-- how many line feeds
abbrev pub feeds : List ℕ → ℕ
feeds [] = 0
feeds (c ∷ cs) = (if c == 10 then 1 else 0) + feeds cs

-- whole lines: nothing, or a last byte that is a line feed
abbrev pub is_lines : List ℕ → Bool
is_lines [] = true
is_lines (c ∷ []) = c == 10
is_lines (c ∷ d ∷ cs) = is_lines (d ∷ cs)

-- The bytes are the lines before this one, counted from 1, and so many bytes of it.
pub record EndsIn (line count : ℕ) (bytes : List ℕ) : Type 0 where
  pub lines : List ℕ
  pub part : List ℕ
  pub text : bytes ≡ lines ++ part
  pub whole : is_lines lines ≡ true
  pub within : list_all (λ c. not (c == 10)) part ≡ true
  pub numbered : line ≡ 1 + feeds lines
  pub counted : count ≡ length part

-- Some text of tokens begins with the bytes.
pub record BeginsText (form : Form) (bytes : List ℕ) : Type 0 where
  pub more : List ℕ
  pub tokens : List Token
  pub are : IsTokensOf form (bytes ++ more) tokens

-- The bytes are no text of tokens. The longest front with which some text of tokens begins ends in this line, after so many bytes of it.
pub record IsFaultAt (form : Form) (bytes : List ℕ) (line count : ℕ) : Type 0 where
  pub front : List ℕ
  pub rest : List ℕ
  pub text : bytes ≡ front ++ rest
  pub place : EndsIn line count front
  pub begins : BeginsText form front
  pub longest : (c : ℕ) (more : List ℕ) → rest ≡ c ∷ more → BeginsText form (front ++ c ∷ []) → ⊥
  pub none : (tokens : List Token) → IsTokensOf form bytes tokens → ⊥

-- Want of memory says nothing of the bytes.
abbrev pub IsSyntaxFault : Form → List ℕ → TextFault → Type 0
IsSyntaxFault form bytes OutOfMemory = Unit {0}
IsSyntaxFault form bytes (Syntax line count) = IsFaultAt form bytes line count
IsSyntaxFault form bytes (Limit line) = ⊥
