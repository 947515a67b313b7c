-- The text of each expression.
use Rattle.std.specs.Prelude.{List, [], ◌∷◌, ◌++◌, map}
use Rattle.kernel_grammar.specs.declared.step.Extreme.{Extreme}
use Rattle.kernel_grammar.specs.declared.step.Extreme.TheVariants.{Min, Max}
use Rattle.kernel_grammar.specs.Words.{Name}
use Rattle.kind_faults.specs.Words.{kind_word}
use Rattle.kernel_grammar.specs.Lexicals.{Lexical, word, number, key, mark, listed}
use Rattle.kernel_grammar.specs.Trees.{Rel, at_most, less, at_least, more, equal, equals, Over, bare, names}
use Rattle.kernel_grammar.specs.Trees.{Or, or_of, or, And, and_of, and, Not, not_of, not, Cmp, cmp_of, related, unequal, Bor, bor_of, bor, Bxor, bxor_of, bxor, Band, band_of, band, Shift, shift_of, left, right, Sum, sum_of, plus, minus, Sums, one, first, Prod, prod_of, times, quotient, remainder, Unary, unary_of, negated, inverted, Atom, digits, multiple, named, indexed, called, called_at, sum, product, extreme, extreme_over, cast, choice, grouped}

-- a relation's sign
abbrev pub rel_text : Rel → Lexical
rel_text at_most = mark "<="
rel_text less = mark "<"
rel_text at_least = mark ">="
rel_text more = mark ">"
rel_text equal = mark "="
rel_text equals = mark "=="

-- the word of `min` or `max`
abbrev pub extreme_text : Extreme → Lexical
extreme_text Min = key "min"
extreme_text Max = key "max"

-- a name
abbrev pub name_text : Name → List Lexical
name_text name = word name.word ∷ []

-- names with `,` between them
abbrev pub names_text : List Name → List Lexical
names_text list = listed (mark ",") (map name_text list)

-- a text in parentheses
abbrev pub in_parentheses : List Lexical → List Lexical
in_parentheses text = mark "(" ∷ text ++ mark ")" ∷ []

-- a text in brackets
abbrev pub in_brackets : List Lexical → List Lexical
in_brackets text = mark "[" ∷ text ++ mark "]" ∷ []

-- the inames of a reduction
abbrev pub over_text : Over → List Lexical
over_text (bare name) = name_text name
over_text (names name list) = in_parentheses (names_text (name ∷ list))

-- two places in parentheses
abbrev pub of_two : List Lexical → List Lexical → List Lexical
of_two a b = in_parentheses (a ++ mark "," ∷ b)

-- three places in parentheses
abbrev pub of_three : List Lexical → List Lexical → List Lexical → List Lexical
of_three a b c = in_parentheses (a ++ mark "," ∷ b ++ mark "," ∷ c)

-- the text of each production
abbrev mutual
  pub or_text : Or → List Lexical
  or_text (or_of a) = and_text a
  or_text (or a b) = or_text a ++ key "or" ∷ and_text b

  pub and_text : And → List Lexical
  and_text (and_of a) = not_text a
  and_text (and a b) = and_text a ++ key "and" ∷ not_text b

  pub not_text : Not → List Lexical
  not_text (not_of a) = cmp_text a
  not_text (not a) = key "not" ∷ not_text a

  pub cmp_text : Cmp → List Lexical
  cmp_text (cmp_of a) = bor_text a
  cmp_text (related a rel b) = bor_text a ++ rel_text rel ∷ bor_text b
  cmp_text (unequal a b) = bor_text a ++ mark "!=" ∷ bor_text b

  pub bor_text : Bor → List Lexical
  bor_text (bor_of a) = bxor_text a
  bor_text (bor a b) = bor_text a ++ mark "|" ∷ bxor_text b

  pub bxor_text : Bxor → List Lexical
  bxor_text (bxor_of a) = band_text a
  bxor_text (bxor a b) = bxor_text a ++ mark "^" ∷ band_text b

  pub band_text : Band → List Lexical
  band_text (band_of a) = shift_text a
  band_text (band a b) = band_text a ++ mark "&" ∷ shift_text b

  pub shift_text : Shift → List Lexical
  shift_text (shift_of a) = sum_text a
  shift_text (left a count) = shift_text a ++ mark "<<" ∷ number count ∷ []
  shift_text (right a count) = shift_text a ++ mark ">>" ∷ number count ∷ []

  pub sum_text : Sum → List Lexical
  sum_text (sum_of a) = prod_text a
  sum_text (plus a b) = sum_text a ++ mark "+" ∷ prod_text b
  sum_text (minus a b) = sum_text a ++ mark "-" ∷ prod_text b

  pub sums_text : Sums → List Lexical
  sums_text (one a) = sum_text a
  sums_text (first a b) = sum_text a ++ mark "," ∷ sums_text b

  pub prod_text : Prod → List Lexical
  prod_text (prod_of a) = unary_text a
  prod_text (times a b) = prod_text a ++ mark "*" ∷ unary_text b
  prod_text (quotient a b) = prod_text a ++ mark "//" ∷ unary_text b
  prod_text (remainder a b) = prod_text a ++ mark "%" ∷ unary_text b

  pub unary_text : Unary → List Lexical
  unary_text (unary_of a) = atom_text a
  unary_text (negated a) = mark "-" ∷ unary_text a
  unary_text (inverted a) = mark "~" ∷ unary_text a

  pub atom_text : Atom → List Lexical
  atom_text (digits d) = number d ∷ []
  atom_text (multiple d name) = number d ∷ name_text name
  atom_text (named name) = name_text name
  atom_text (indexed name places) = word name.word ∷ in_brackets (sums_text places)
  atom_text (called name) = word name.word ∷ in_parentheses []
  atom_text (called_at name places) = word name.word ∷ in_parentheses (sums_text places)
  atom_text (sum over a) = key "sum" ∷ of_two (over_text over) (or_text a)
  atom_text (product over a) = key "product" ∷ of_two (over_text over) (or_text a)
  atom_text (extreme which a b) = extreme_text which ∷ of_two (or_text a) (or_text b)
  atom_text (extreme_over which name other list a) =
      extreme_text which ∷ of_two (in_parentheses (names_text (name ∷ other ∷ list))) (or_text a)
  atom_text (cast kind a) = key "cast" ∷ of_two (word (kind_word kind) ∷ []) (or_text a)
  atom_text (choice a b c) = key "if" ∷ of_three (or_text a) (or_text b) (or_text c)
  atom_text (grouped a) = in_parentheses (or_text a)
