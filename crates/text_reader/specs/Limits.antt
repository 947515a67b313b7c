-- Numbers that are too large, and all causes for which a text is not read.
use Rattle.std.specs.Prelude.{◌≡◌, ℕ, ◌-◌, ◌^◌, Bool, true, false, ◌&&◌, List, Option, Some, find, take, drop, nat_le}
use Rattle.std.specs.Option.{option_map}
use Rattle.text_reader.specs.declared.form.Form.{Form}
use Rattle.text_reader.specs.declared.token.Class.{Class}
use Rattle.text_reader.specs.declared.token.Class.TheVariants.{Word, Number, Sign, LineEnd}
use Rattle.text_reader.specs.declared.token.Token.{Token}
use Rattle.text_reader.specs.declared.fault.TextFault.{TextFault}
use Rattle.text_reader.specs.declared.fault.TextFault.TheVariants.{OutOfMemory, Syntax, Limit}
use Rattle.text_reader.specs.Numbers.{value_of}
use Rattle.text_reader.specs.Tokens.{IsTokensOf}
use Rattle.text_reader.specs.Faults.{IsFaultAt}

-- the bytes of a token
abbrev pub bytes_of : List ℕ → Token → List ℕ
bytes_of bytes token = take (token.to - token.from) (drop token.from bytes)

-- the class of numbers
abbrev pub is_number : Class → Bool
is_number Word = false
is_number Number = true
is_number Sign = false
is_number LineEnd = false

-- a number past 18446744073709551615
abbrev pub is_large : List ℕ → Token → Bool
is_large bytes token = is_number token.class && nat_le (2 ^ 64) (value_of (bytes_of bytes token))

-- the line of the first number past 18446744073709551615
abbrev pub large_line : List ℕ → List Token → Option ℕ
large_line bytes tokens = option_map (λ token. token.line) (find (is_large bytes) tokens)

-- The bytes are a text of tokens, and the first number past 18446744073709551615 stands in this line.
pub record IsLimitAt (form : Form) (bytes : List ℕ) (line : ℕ) : Type 0 where
  pub tokens : List Token
  pub are : IsTokensOf form bytes tokens
  pub first : large_line bytes tokens ≡ Some line

-- Want of memory says nothing of the bytes.
abbrev pub IsFault : Form → List ℕ → TextFault → Type 0
IsFault form bytes OutOfMemory = Unit {0}
IsFault form bytes (Syntax line count) = IsFaultAt form bytes line count
IsFault form bytes (Limit line) = IsLimitAt form bytes line
