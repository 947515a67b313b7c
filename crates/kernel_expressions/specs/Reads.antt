-- What stands between two places of a text.
use Rattle.std.specs.Prelude.{◌≡◌, ℕ, Option, ◌+◌, ◌<◌, ◌≤◌, List, [], ◌∷◌, ◌++◌, map, drop, length}
use Rattle.kernel_grammar.specs.Lexicals.{Lexical, number, number_in, mark, listed}
use Rattle.kernel_grammar.specs.Words.{Name, words_of}
use Rattle.kernel_grammar.specs.Spelling.{names_text, sums_text, in_brackets}
use Rattle.kernel_grammar.specs.Trees.{Sums}

-- This token stands at the place.
pub record Next (all : List Lexical) (at : ℕ) (x : Lexical) : Type 0 where
  pub here : drop at all ≡ x ∷ drop (at + 1) all
  pub within : at < length all

-- Between the places stands such a text.
pub record Reads (all : List Lexical) (at next : ℕ) (P : List Lexical → Type 0) : Type 0 where
  pub text : List Lexical
  pub ahead : drop at all ≡ text ++ drop next all
  pub on : at ≤ next
  pub within : next ≤ length all
  pub is : P text

-- The text is that of a tree, which means the value if the premise holds.
pub record IsItem (S : Type 0) {X T : Type 0} (spell : X → List Lexical) (mean : X → T) (value : T) (text : List Lexical) : Type 0 where
  pub tree : X
  pub spelled : spell tree ≡ text
  pub means : S → mean tree ≡ value

-- The text is that of one tree or more with a sign between each two, which mean the values if the premise holds.
pub record IsList (S : Type 0) {X T : Type 0} (spell : X → List Lexical) (mean : X → T) (separator : Lexical) (values : List T) (text : List Lexical) : Type 0 where
  pub first : X
  pub more : List X
  pub spelled : listed separator (map spell (first ∷ more)) ≡ text
  pub means : S → map mean (first ∷ more) ≡ values

-- the word of a name
abbrev pub word_of : Name → List ℕ
word_of name = name.word

-- digits
abbrev pub digits_text : List ℕ → List Lexical
digits_text digits = number digits ∷ []

-- The text is that of some names, or of none, and of a token behind them.
abbrev pub IsNamesBefore : (S : Type 0) (close : Lexical) (names : List (List ℕ)) → List Lexical → Type 0
IsNamesBefore S close = IsItem S (λ (list : List Name). names_text list ++ close ∷ []) words_of

-- sums in brackets
abbrev pub bracketed : Sums → List Lexical
bracketed sums = in_brackets (sums_text sums)

-- The text is a bracket and numbers with `,` between them.
pub record IsNumbers (S : Type 0) (values : List (Option ℕ)) (text : List Lexical) : Type 0 where
  pub front : List Lexical
  pub spelled : text ≡ mark "[" ∷ front
  pub list : IsList S digits_text number_in (mark ",") values front
