-- Tokens that stand for all that may go on behind others.
use Rattle.std.specs.Prelude.{◌≡◌, ◌⊎◌, ℕ, ◌≤◌, Bool, true, false, MatchBool, List, [], ◌∷◌, ◌++◌, map, codes}
use Rattle.std.specs.Char.{is_ascii_digit}
use Rattle.wrap_words.specs.declared.kind.Kind.TheVariants.{I32, I64, U32, U64}
use Rattle.kind_faults.specs.Words.{kind_word}
use Rattle.text_reader.specs.declared.form.Form.TheVariants.{Kernel}
use Rattle.text_reader.specs.Bytes.{begins_word}
use Rattle.text_reader.specs.Signs.{singles, pairs}
use Rattle.text_reader.specs.Spelling.{IsWord}
use Rattle.kernel_grammar.specs.Words.{keywords}
use Rattle.kernel_grammar.specs.Lexicals.{Lexical, word, number, sign, line_end, key}
use Rattle.kernel_syntax.specs.Places.{common, spelled, GoesOn}

-- the names that the grammar quotes, the number 1 and a line's end
abbrev pub others_known : List Lexical
others_known = key "id" ∷ key "dep" ∷ key "inames" ∷ number (codes "1") ∷ line_end ∷ []

-- the signs
abbrev pub signs_known : List Lexical
signs_known = map (λ c. sign (c ∷ [])) (singles Kernel) ++ map sign (pairs Kernel)

-- the words of the kinds
abbrev pub kinds_known : List Lexical
kinds_known = map word (map kind_word (I32 ∷ I64 ∷ U32 ∷ U64 ∷ []))

-- all tokens that the grammar quotes, and a line's end
abbrev pub known : List Lexical
known = ((signs_known ++ map word keywords) ++ kinds_known) ++ others_known

-- the token is one of these
abbrev pub Among : Lexical → List Lexical → Type 0
Among x [] = ⊥
Among x (y ∷ ys) = (x ≡ y) ⊎ Among x ys

-- So many bytes the text has in common with one of these tokens, which goes on.
pub record IsCommon (front : List Lexical) (text : List ℕ) (xs : List Lexical) (count : ℕ) : Type 0 where
  pub x : Lexical
  pub among : Among x xs
  pub goes : GoesOn front x
  pub is : count ≡ common text (spelled x)

-- The greatest of a number and of how many bytes the text has in common with each of these tokens that goes on.
pub record IsLonger (front : List Lexical) (text : List ℕ) (xs : List Lexical) (most count : ℕ) : Type 0 where
  pub kept : most ≤ count
  pub longest : (x : Lexical) → Among x xs → GoesOn front x → common text (spelled x) ≤ count
  pub is : (count ≡ most) ⊎ IsCommon front text xs count

-- the text begins with such a byte
abbrev pub starts : (ℕ → Bool) → List ℕ → Bool
starts f [] = false
starts f (c ∷ cs) = f c

-- Where the text begins with a letter or `_` it is a word that is not kept, and where with a digit, no file goes on with it as a number.
pub record IsTried (front : List Lexical) (text : List ℕ) : Type 0 where
  pub word : starts begins_word text ≡ true → IsWord Kernel text
  pub number : starts is_ascii_digit text ≡ true → GoesOn front (number text) → ⊥

-- Whether the text begins with a letter or `_` and any name goes on.
abbrev pub TakesName : List Lexical → List ℕ → Bool → Type 0
TakesName front text b = MatchBool b ((starts begins_word text ≡ true) × GoesOn front (key "x")) (starts begins_word text ≡ true → GoesOn front (key "x") → ⊥)
