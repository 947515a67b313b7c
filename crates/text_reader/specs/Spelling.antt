-- How the tokens of each class are spelled.
use Rattle.std.specs.Prelude.{◌≡◌, ◌⊎◌, ℕ, ◌<◌, Bool, true, false, ◌||◌, List, [], ◌∷◌, length, slice_index}
use Rattle.std.specs.Char.{is_ascii_digit}
use Rattle.std.specs.List.{list_all}
use Rattle.text_reader.specs.declared.form.Form.{Form}
use Rattle.text_reader.specs.declared.form.Form.TheVariants.{Kernel, Fortran, Words}
use Rattle.text_reader.specs.declared.token.Class.{Class}
use Rattle.text_reader.specs.declared.token.Class.TheVariants.{Word, Number, Sign, LineEnd}
use Rattle.text_reader.specs.Bytes.{begins_word, is_script_byte, is_word_byte, is_words}
use Rattle.text_reader.specs.Signs.{is_single, is_pair}
use Rattle.text_reader.specs.Lexemes.{is_kept}
use Rattle.text_reader.specs.declared.token.Token as declared
use Rattle.text_reader.specs.Limits.{bytes_of}

-- a byte of a word that no line feed follows
abbrev pub is_of_word : Form → ℕ → Bool
is_of_word Kernel c = is_word_byte c
is_of_word Fortran c = is_word_byte c
is_of_word Words c = is_script_byte c false

-- the text is a sign
abbrev pub is_sign : Form → List ℕ → Bool
is_sign form [] = false
is_sign form (c ∷ []) = is_single form c
is_sign form (c ∷ d ∷ []) = is_pair form c d
is_sign form (c ∷ d ∷ e ∷ es) = false

-- The text is a word that the program does not keep for itself.
pub record IsWord (form : Form) (text : List ℕ) : Type 0 where
  pub some : 0 < length text
  pub begins : (is_words form || begins_word (slice_index text 0)) ≡ true
  pub bytes : list_all (is_of_word form) text ≡ true
  pub free : is_kept form text ≡ false

-- The text is digits.
pub record IsDigits (text : List ℕ) : Type 0 where
  pub some : 0 < length text
  pub bytes : list_all is_ascii_digit text ≡ true

-- The text is a word, digits, a sign, or a line feed or nothing.
abbrev pub IsSpelled : Form → Class → List ℕ → Type 0
IsSpelled form Word text = IsWord form text
IsSpelled form Number text = IsDigits text
IsSpelled form Sign text = is_sign form text ≡ true
IsSpelled form LineEnd text = (text ≡ []) ⊎ (text ≡ 10 ∷ [])

-- The token's bytes are what its class says.
abbrev pub IsSpelledIn : Form → List ℕ → declared.Token → Type 0
IsSpelledIn form bytes token = IsSpelled form token.class (bytes_of bytes token)
