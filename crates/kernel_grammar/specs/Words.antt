-- The words of kernel files: those that are no names, and names.
use Rattle.std.specs.Prelude.{◌≡◌, ℕ, Bool, false, ◌||◌, List, [], ◌∷◌, Option, find, bytes_eq, codes}
use Rattle.std.specs.List.{list_any}
use Rattle.std.specs.Option.{is_some}
use Rattle.wrap_words.specs.declared.kind.Kind.{Kind}
use Rattle.wrap_words.specs.declared.kind.Kind.TheVariants.{I32, I64, U32, U64}
use Rattle.kind_faults.specs.Words.{kind_word}

-- the kind that a word names
abbrev pub kind_named : List ℕ → Option Kind
kind_named word = find (λ kind. bytes_eq word (kind_word kind)) (I32 ∷ I64 ∷ U32 ∷ U64 ∷ [])

-- the words of the grammar that name no kind
abbrev pub keywords : List (List ℕ)
keywords = codes "kernel" ∷ codes "domain" ∷ codes "assume" ∷ codes "input" ∷ codes "output" ∷ codes "temp" ∷ codes "sum" ∷ codes "product" ∷ codes "min" ∷ codes "max" ∷ codes "if" ∷ codes "cast" ∷ codes "and" ∷ codes "or" ∷ codes "not" ∷ []

-- the word is no name
abbrev pub is_reserved : List ℕ → Bool
is_reserved word = list_any (bytes_eq word) keywords || is_some (kind_named word)

-- A name is a word that is not reserved.
pub record Name : Type 0 where
  pub word : List ℕ
  pub free : is_reserved word ≡ false

-- the words of names
abbrev pub words_of : List Name → List (List ℕ)
words_of [] = []
words_of (name ∷ names) = name.word ∷ words_of names
