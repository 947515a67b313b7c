-- Which tokens may stand behind others.
use Rattle.std.specs.Prelude.{◌≡◌, ℕ, ◌+◌, ◌<◌, ◌≤◌, true, ◌==◌, if◌then◌else◌, List, [], ◌∷◌, ◌++◌, length, take}
use Rattle.text_reader.specs.declared.form.Form.TheVariants.{Kernel}
use Rattle.text_reader.specs.Spelling.{IsWord, IsDigits, is_sign}
use Rattle.kernel_grammar.specs.Files.{file_text}
use Rattle.kernel_grammar.specs.Lexicals.{Lexical, word, number, sign, line_end}
use Rattle.kernel_expressions.specs.Settled.{Begins, Spells}

-- the bytes of a token; a line may end in a carriage return and a line feed
abbrev pub spelled : Lexical → List ℕ
spelled (word w) = w
spelled (number d) = d
spelled (sign s) = s
spelled line_end = 13 ∷ 10 ∷ []

-- The token is a word, digits, a sign or a line's end.
abbrev pub IsWritten : Lexical → Type 0
IsWritten (word w) = IsWord Kernel w
IsWritten (number d) = IsDigits d
IsWritten (sign s) = is_sign Kernel s ≡ true
IsWritten line_end = Unit {0}

-- Some kernel file begins with the tokens and this one behind them.
abbrev pub GoesOn : List Lexical → Lexical → Type 0
GoesOn front x = Begins (Spells file_text) (front ++ x ∷ [])

-- how many bytes two texts have in common at their fronts
abbrev pub common : List ℕ → List ℕ → ℕ
common [] ys = 0
common (x ∷ xs) [] = 0
common (x ∷ xs) (y ∷ ys) = if x == y then 1 + common xs ys else 0

-- So many bytes of the text begin a token with which some kernel file goes on behind these tokens, and no more do.
pub record IsBegun (front : List Lexical) (text : List ℕ) (count : ℕ) : Type 0 where
  pub within : count ≤ length text
  pub begins : 0 < count → (x : Lexical) × IsWritten x × GoesOn front x × (others : List ℕ) × (spelled x ≡ take count text ++ others)
  pub longest : (x : Lexical) → IsWritten x → GoesOn front x → common text (spelled x) ≤ count
