-- The steps of each expression.
use Rattle.std.specs.Prelude.{◌≡◌, ℕ, List, [], ◌∷◌, ◌++◌, length, flat_map}
use Rattle.kernel_grammar.specs.declared.item.Relation.{Relation}
use Rattle.kernel_grammar.specs.declared.item.Relation.TheVariants as relation
use Rattle.kernel_grammar.specs.declared.step.Step.{Step}
use Rattle.kernel_grammar.specs.declared.step.Step.TheVariants as step
use Rattle.kernel_grammar.specs.declared.step.Prefix.TheVariants as prefix
use Rattle.kernel_grammar.specs.declared.step.Infix.{Infix}
use Rattle.kernel_grammar.specs.declared.step.Infix.TheVariants as infixed
use Rattle.kernel_grammar.specs.declared.step.Extreme.{Extreme}
use Rattle.kernel_grammar.specs.declared.step.Folding.TheVariants as folding
use Rattle.kernel_grammar.specs.Words.{words_of}
use Rattle.kernel_grammar.specs.Lexicals.{Lexical, number_in, word, sign}
use Rattle.kernel_grammar.specs.Trees.{Rel, at_most, less, at_least, more, equal, equals, Over, bare, names}
use Rattle.kernel_grammar.specs.Trees.{Or, or_of, or, And, and_of, and, Not, not_of, not, Cmp, cmp_of, related, unequal, Bor, bor_of, bor, Bxor, bxor_of, bxor, Band, band_of, band, Shift, shift_of, left, right, Sum, sum_of, plus, minus, Sums, one, first, Prod, prod_of, times, quotient, remainder, Unary, unary_of, negated, inverted, Atom, digits, multiple, named, indexed, called, called_at, sum, product, extreme, extreme_over, cast, choice, grouped}
use Rattle.kernel_grammar.specs.Spelling.{or_text}

-- `=` and `==` are one relation
abbrev pub relation_of : Rel → Relation
relation_of at_most = relation.LessEqual
relation_of less = relation.Less
relation_of at_least = relation.GreaterEqual
relation_of more = relation.Greater
relation_of equal = relation.Equal
relation_of equals = relation.Equal

-- the inames of a reduction
abbrev pub inames_of : Over → List (List ℕ)
inames_of (bare name) = name.word ∷ []
inames_of (names name list) = words_of (name ∷ list)

-- the steps of operands, in order
abbrev pub joined : List (List Step) → List Step
joined places = flat_map (λ place. place) places

-- an operator behind its operands
abbrev pub postfix : List Step → List Step → Infix → List Step
postfix a b operator = a ++ b ++ step.Infix operator ∷ []

-- `min` and `max`, by the text of the first place: of a bare name and the second place, over a name in parentheses, and else of two values.
-- No other text of an expression is one word, or one word between two signs.
abbrev pub extreme_steps : Extreme → List Lexical → List Step → List Step → List Step
extreme_steps which (word name ∷ []) a b = b ++ step.ExtremeOf which name ∷ []
extreme_steps which (sign before ∷ word name ∷ sign behind ∷ []) a b = b ++ step.Fold (folding.Extreme which) (name ∷ []) ∷ []
extreme_steps which _ a b = postfix a b (infixed.Extreme which)

-- the steps of each production, and those of each item of a list
abbrev mutual
  pub or_steps : Or → List Step
  or_steps (or_of a) = and_steps a
  or_steps (or a b) = postfix (or_steps a) (and_steps b) infixed.Or

  pub and_steps : And → List Step
  and_steps (and_of a) = not_steps a
  and_steps (and a b) = postfix (and_steps a) (not_steps b) infixed.And

  pub not_steps : Not → List Step
  not_steps (not_of a) = cmp_steps a
  not_steps (not a) = not_steps a ++ step.Prefix prefix.Not ∷ []

  pub cmp_steps : Cmp → List Step
  cmp_steps (cmp_of a) = bor_steps a
  cmp_steps (related a rel b) = postfix (bor_steps a) (bor_steps b) (infixed.Compare (relation_of rel))
  cmp_steps (unequal a b) = postfix (bor_steps a) (bor_steps b) infixed.NotEqual

  pub bor_steps : Bor → List Step
  bor_steps (bor_of a) = bxor_steps a
  bor_steps (bor a b) = postfix (bor_steps a) (bxor_steps b) infixed.BitOr

  pub bxor_steps : Bxor → List Step
  bxor_steps (bxor_of a) = band_steps a
  bxor_steps (bxor a b) = postfix (bxor_steps a) (band_steps b) infixed.BitXor

  pub band_steps : Band → List Step
  band_steps (band_of a) = shift_steps a
  band_steps (band a b) = postfix (band_steps a) (shift_steps b) infixed.BitAnd

  pub shift_steps : Shift → List Step
  shift_steps (shift_of a) = sum_steps a
  shift_steps (left a count) = shift_steps a ++ step.ShiftLeft (number_in count) ∷ []
  shift_steps (right a count) = shift_steps a ++ step.ShiftRight (number_in count) ∷ []

  pub sum_steps : Sum → List Step
  sum_steps (sum_of a) = prod_steps a
  sum_steps (plus a b) = postfix (sum_steps a) (prod_steps b) infixed.Add
  sum_steps (minus a b) = postfix (sum_steps a) (prod_steps b) infixed.Subtract

  pub sums_steps : Sums → List (List Step)
  sums_steps (one a) = sum_steps a ∷ []
  sums_steps (first a b) = sum_steps a ∷ sums_steps b

  pub prod_steps : Prod → List Step
  prod_steps (prod_of a) = unary_steps a
  prod_steps (times a b) = postfix (prod_steps a) (unary_steps b) infixed.Multiply
  prod_steps (quotient a b) = postfix (prod_steps a) (unary_steps b) infixed.Divide
  prod_steps (remainder a b) = postfix (prod_steps a) (unary_steps b) infixed.Remainder

  pub unary_steps : Unary → List Step
  unary_steps (unary_of a) = atom_steps a
  unary_steps (negated a) = unary_steps a ++ step.Prefix prefix.Negate ∷ []
  unary_steps (inverted a) = unary_steps a ++ step.Prefix prefix.Invert ∷ []

  pub atom_steps : Atom → List Step
  atom_steps (digits d) = step.Number (number_in d) ∷ []
  atom_steps (multiple d name) = postfix (step.Number (number_in d) ∷ []) (step.Name name.word ∷ []) infixed.Multiply
  atom_steps (named name) = step.Name name.word ∷ []
  atom_steps (indexed name places) = joined (sums_steps places) ++ step.Index name.word (length (sums_steps places)) ∷ []
  atom_steps (called name) = step.Call name.word 0 ∷ []
  atom_steps (called_at name places) = joined (sums_steps places) ++ step.Call name.word (length (sums_steps places)) ∷ []
  atom_steps (sum over a) = or_steps a ++ step.Fold folding.Sum (inames_of over) ∷ []
  atom_steps (product over a) = or_steps a ++ step.Fold folding.Product (inames_of over) ∷ []
  atom_steps (extreme which a b) = extreme_steps which (or_text a) (or_steps a) (or_steps b)
  atom_steps (extreme_over which name other list a) =
      or_steps a ++ step.Fold (folding.Extreme which) (words_of (name ∷ other ∷ list)) ∷ []
  atom_steps (cast kind a) = or_steps a ++ step.Cast kind ∷ []
  atom_steps (choice a b c) = or_steps a ++ or_steps b ++ or_steps c ++ step.Choose ∷ []
  atom_steps (grouped a) = or_steps a

-- The text is an expression, and these are its steps.
pub record IsExpression (text : List Lexical) (steps : List Step) : Type 0 where
  pub tree : Or
  pub spelled : or_text tree ≡ text
  pub means : or_steps tree ≡ steps
