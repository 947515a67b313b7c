-- Texts as lists of tokens that hold their bytes.
use Prim.Native.String.{String}
use Rattle.std.specs.Prelude.{ℕ, ◌^◌, nat_lt, Bool, true, false, if◌then◌else◌, List, [], ◌∷◌, ◌++◌, map, codes, Option, Some, None}
use Rattle.text_reader.specs.Numbers.{value_of}
use Rattle.text_reader.specs.declared.token.Class.{Class}
use Rattle.text_reader.specs.declared.token.Class.TheVariants as class
use Rattle.text_reader.specs.declared.token.Token.{Token}
use Rattle.text_reader.specs.Limits.{bytes_of}

-- A token with its bytes. A line's end is the same with and without a line feed.
pub data Lexical : Type 0 where
  word : List ℕ → Lexical
  number : List ℕ → Lexical
  sign : List ℕ → Lexical
  line_end : Lexical

-- the token ends no line
abbrev pub is_inner : Lexical → Bool
is_inner (word text) = true
is_inner (number digits) = true
is_inner (sign text) = true
is_inner line_end = false

-- a word that the grammar quotes
abbrev pub key : String → Lexical
key text = word (codes text)

-- a sign that the grammar quotes
abbrev pub mark : String → Lexical
mark text = sign (codes text)

-- the number that digits write, or none where it passes 18446744073709551615
abbrev pub number_in : List ℕ → Option ℕ
number_in digits = if nat_lt (value_of digits) (2 ^ 64) then Some (value_of digits) else None

-- a token of this class with these bytes
abbrev pub lexical : Class → List ℕ → Lexical
lexical class.Word bytes = word bytes
lexical class.Number bytes = number bytes
lexical class.Sign bytes = sign bytes
lexical class.LineEnd bytes = line_end

-- the tokens of a file, with their bytes
abbrev pub lexicals : List ℕ → List Token → List Lexical
lexicals bytes tokens = map (λ token. lexical token.class (bytes_of bytes token)) tokens

-- texts with a sign between each two
abbrev pub listed : Lexical → List (List Lexical) → List Lexical
listed separator [] = []
listed separator (text ∷ []) = text
listed separator (text ∷ other ∷ more) = text ++ separator ∷ listed separator (other ∷ more)
