-- The laws of texts of tokens.
use Rattle.std.specs.Prelude.{◌≡◌, ◌≤◌, ℕ, ◌+◌, List, length}
use Rattle.text_reader.specs.declared.form.Form.{Form}
use Rattle.text_reader.specs.declared.token.Token.{Token}
use Rattle.std.specs.List.{All}
use Rattle.text_reader.specs.Tokens.{IsTokensOf}
use Rattle.text_reader.specs.Spelling.{IsSpelledIn}

-- A text has one list of tokens.
abbrev pub HasOneList : Type 0
HasOneList = (form : Form) (bytes : List ℕ) (tokens others : List Token) → IsTokensOf form bytes tokens → IsTokensOf form bytes others → tokens ≡ others

-- The bytes of each token are what its class says.
abbrev pub HasSpelledTokens : Type 0
HasSpelledTokens = (form : Form) (bytes : List ℕ) (tokens : List Token) → IsTokensOf form bytes tokens → All (IsSpelledIn form bytes) tokens

-- Each token but the last has a byte.
abbrev pub HasFewTokens : Type 0
HasFewTokens = (form : Form) (bytes : List ℕ) (tokens : List Token) → IsTokensOf form bytes tokens → length tokens ≤ length bytes + 1
