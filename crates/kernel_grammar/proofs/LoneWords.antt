-- The texts of expressions that are one word, bare or between two signs.
use Rattle.std.proofs.Common.{◌≡◌, ◌<◌, ℕ, List, [], ◌∷◌, ◌++◌, length, ap, refl, length-append, arith, codes}
use Rattle.kernel_grammar.specs.declared.step.Extreme.{Extreme}
use Rattle.kernel_grammar.specs.declared.step.Extreme.TheVariants.{Min, Max}
use Rattle.kernel_grammar.specs.declared.step.Step.{Step}
use Rattle.kernel_grammar.specs.declared.step.Step.TheVariants.{Name}
use Rattle.kind_faults.specs.Words.{kind_word}
use Rattle.kernel_grammar.specs.Lexicals.{Lexical, word, number, sign, mark}
use Rattle.kernel_grammar.specs.Trees.{Or, or_of, or, And, and_of, and, Not, not_of, not, Cmp, cmp_of, related, unequal, Bor, bor_of, bor, Bxor, bxor_of, bxor, Band, band_of, band, Shift, shift_of, left, right, Sum, sum_of, plus, minus, Prod, prod_of, times, quotient, remainder, Unary, unary_of, negated, inverted, Atom, digits, multiple, named, indexed, called, called_at, sum, product, extreme, extreme_over, cast, choice, grouped}
use Rattle.kernel_grammar.specs.Spelling.{extreme_text, in_parentheses, names_text, or_text, and_text, not_text, cmp_text, bor_text, bxor_text, band_text, shift_text, sum_text, prod_text, unary_text, atom_text}
use Rattle.kernel_grammar.specs.Steps.{or_steps, and_steps, not_steps, cmp_steps, bor_steps, bxor_steps, band_steps, shift_steps, sum_steps, prod_steps, unary_steps, atom_steps}
use Rattle.kernel_grammar.specs.Laws.{LoneWordsAreNames, WordsInSignsAreNames}

-- what the short texts of expressions are
record Shape (text : List Lexical) (steps : List Step) : Type 0 where
  some : 0 < length text
  no_sign : (s : List ℕ) → text ≡ sign s ∷ [] → ⊥
  no_open : (w s : List ℕ) → text ≡ word w ∷ sign s ∷ [] → ⊥
  bare : (w : List ℕ) → text ≡ word w ∷ [] → steps ≡ Name w ∷ []
  inside : (s w t : List ℕ) → text ≡ sign s ∷ word w ∷ sign t ∷ [] → steps ≡ Name w ∷ []

lone_end : (xs : List Lexical) (y z : Lexical) → xs ++ y ∷ [] ≡ z ∷ [] → xs ≡ []
lone_end [] y z e = refl
lone_end (x ∷ xs) y z e = absurd (omega (arith, ap length e, length-append (x ∷ xs) (y ∷ [])))

no_end : (xs : List Lexical) (y : Lexical) → xs ++ y ∷ [] ≡ [] → ⊥
no_end xs y e = omega (arith, ap length e, length-append xs (y ∷ []))

first_of_two : (xs : List Lexical) (y w z : Lexical) → xs ++ y ∷ [] ≡ w ∷ z ∷ [] → xs ≡ w ∷ []
first_of_two [] y w z e = absurd (omega (arith, ap length e))
first_of_two (x ∷ []) y w z e = cc
first_of_two (x ∷ v ∷ xs) y w z e = absurd (omega (arith, ap length e, length-append (x ∷ v ∷ xs) (y ∷ [])))

-- between two texts one token leaves one token for each
first_of_three : (xs ys : List Lexical) (y s w t : Lexical) → 0 < length xs → 0 < length ys → xs ++ y ∷ ys ≡ s ∷ w ∷ t ∷ [] → xs ≡ s ∷ []
first_of_three [] ys y s w t p q e = absurd (omega (arith, p))
first_of_three (x ∷ []) ys y s w t p q e = cc
first_of_three (x ∷ v ∷ xs) ys y s w t p q e = absurd (omega (arith, q, ap length e, length-append (x ∷ v ∷ xs) (y ∷ ys)))

of_two : (xs ys : List Lexical) (y : Lexical) (a b steps : List Step) → Shape xs a → Shape ys b → Shape (xs ++ y ∷ ys) steps
of_two xs ys y a b steps h k = let p = h.some in let q = k.some in let long = length-append xs (y ∷ ys) in record {
  some = omega (arith, p, long);
  no_sign = λ s e. omega (arith, p, q, long, ap length e);
  no_open = λ w s e. omega (arith, p, q, long, ap length e);
  bare = λ w e. absurd (omega (arith, p, q, long, ap length e));
  inside = λ s w t e. absurd (h.no_sign s (first_of_three xs ys y (sign s) (word w) (sign t) p q e));
}

-- digits
of_digits : (d : List ℕ) (steps : List Step) → Shape (number d ∷ []) steps
of_digits d steps = record {
  some = omega arith;
  no_sign = λ s e. cc;
  no_open = λ w s e. cc;
  bare = λ w e. absurd (cc);
  inside = λ s w t e. absurd (cc);
}

-- a number and a name
of_multiple : (d n : List ℕ) (steps : List Step) → Shape (number d ∷ word n ∷ []) steps
of_multiple d n steps = record {
  some = omega arith;
  no_sign = λ s e. cc;
  no_open = λ w s e. cc;
  bare = λ w e. absurd (cc);
  inside = λ s w t e. absurd (cc);
}

of_name : (n : List ℕ) → Shape (word n ∷ []) (Name n ∷ [])
of_name n = record {
  some = omega arith;
  no_sign = λ s e. cc;
  no_open = λ w s e. cc;
  bare = λ w e. cc;
  inside = λ s w t e. absurd (cc);
}

-- a word before brackets or parentheses
of_call : (n o c : List ℕ) (xs : List Lexical) (steps : List Step) → Shape (word n ∷ sign o ∷ xs ++ sign c ∷ []) steps
of_call n o c xs steps = let long = length-append xs (sign c ∷ []) in record {
  some = omega arith;
  no_sign = λ s e. cc;
  no_open = λ w s e. omega (arith, long, ap length e);
  bare = λ w e. absurd (omega (arith, ap length e));
  inside = λ s w t e. absurd (cc);
}

-- `not`
of_word : (n : List ℕ) (xs : List Lexical) (a steps : List Step) → Shape xs a → Shape (word n ∷ xs) steps
of_word n xs a steps h = let p = h.some in record {
  some = omega arith;
  no_sign = λ s e. cc;
  no_open = λ w s e. h.no_sign s (cc);
  bare = λ w e. absurd (omega (arith, p, ap length e));
  inside = λ s w t e. absurd (cc);
}

-- a sign before an operand
of_sign : (m : List ℕ) (xs : List Lexical) (a steps : List Step) → Shape xs a → Shape (sign m ∷ xs) steps
of_sign m xs a steps h = let p = h.some in record {
  some = omega arith;
  no_sign = λ s e. omega (arith, p, ap length e);
  no_open = λ w s e. cc;
  bare = λ w e. absurd (cc);
  inside = λ s w t e. absurd (h.no_open w t (cc));
}

of_parentheses : (o c : List ℕ) (xs : List Lexical) (steps : List Step) → Shape xs steps → Shape (sign o ∷ xs ++ sign c ∷ []) steps
of_parentheses o c xs steps h = let long = length-append xs (sign c ∷ []) in record {
  some = omega arith;
  no_sign = λ s e. omega (arith, long, ap length e);
  no_open = λ w s e. cc;
  bare = λ w e. absurd (cc);
  inside = λ s w t e. h.bare w (first_of_two xs (sign c) (word w) (sign t) (cc));
}

of_extreme : (which : Extreme) (xs : List Lexical) (steps : List Step) → Shape (extreme_text which ∷ in_parentheses xs) steps
of_extreme Min xs steps = of_call _ _ _ xs steps
of_extreme Max xs steps = of_call _ _ _ xs steps

mutual
  or_shape : (x : Or) → Shape (or_text x) (or_steps x)
  or_shape (or_of a) = and_shape a
  or_shape (or a b) = of_two _ _ _ _ _ _ (or_shape a) (and_shape b)

  and_shape : (x : And) → Shape (and_text x) (and_steps x)
  and_shape (and_of a) = not_shape a
  and_shape (and a b) = of_two _ _ _ _ _ _ (and_shape a) (not_shape b)

  not_shape : (x : Not) → Shape (not_text x) (not_steps x)
  not_shape (not_of a) = cmp_shape a
  not_shape (not a) = of_word _ _ _ _ (not_shape a)

  cmp_shape : (x : Cmp) → Shape (cmp_text x) (cmp_steps x)
  cmp_shape (cmp_of a) = bor_shape a
  cmp_shape (related a rel b) = of_two _ _ _ _ _ _ (bor_shape a) (bor_shape b)
  cmp_shape (unequal a b) = of_two _ _ _ _ _ _ (bor_shape a) (bor_shape b)

  bor_shape : (x : Bor) → Shape (bor_text x) (bor_steps x)
  bor_shape (bor_of a) = bxor_shape a
  bor_shape (bor a b) = of_two _ _ _ _ _ _ (bor_shape a) (bxor_shape b)

  bxor_shape : (x : Bxor) → Shape (bxor_text x) (bxor_steps x)
  bxor_shape (bxor_of a) = band_shape a
  bxor_shape (bxor a b) = of_two _ _ _ _ _ _ (bxor_shape a) (band_shape b)

  band_shape : (x : Band) → Shape (band_text x) (band_steps x)
  band_shape (band_of a) = shift_shape a
  band_shape (band a b) = of_two _ _ _ _ _ _ (band_shape a) (shift_shape b)

  shift_shape : (x : Shift) → Shape (shift_text x) (shift_steps x)
  shift_shape (shift_of a) = sum_shape a
  shift_shape (left a n) = of_two _ _ _ _ [] _ (shift_shape a) (of_digits n [])
  shift_shape (right a n) = of_two _ _ _ _ [] _ (shift_shape a) (of_digits n [])

  sum_shape : (x : Sum) → Shape (sum_text x) (sum_steps x)
  sum_shape (sum_of a) = prod_shape a
  sum_shape (plus a b) = of_two _ _ _ _ _ _ (sum_shape a) (prod_shape b)
  sum_shape (minus a b) = of_two _ _ _ _ _ _ (sum_shape a) (prod_shape b)

  prod_shape : (x : Prod) → Shape (prod_text x) (prod_steps x)
  prod_shape (prod_of a) = unary_shape a
  prod_shape (times a b) = of_two _ _ _ _ _ _ (prod_shape a) (unary_shape b)
  prod_shape (quotient a b) = of_two _ _ _ _ _ _ (prod_shape a) (unary_shape b)
  prod_shape (remainder a b) = of_two _ _ _ _ _ _ (prod_shape a) (unary_shape b)

  unary_shape : (x : Unary) → Shape (unary_text x) (unary_steps x)
  unary_shape (unary_of a) = atom_shape a
  unary_shape (negated a) = of_sign _ _ _ _ (unary_shape a)
  unary_shape (inverted a) = of_sign _ _ _ _ (unary_shape a)

  atom_shape : (x : Atom) → Shape (atom_text x) (atom_steps x)
  atom_shape (digits d) = of_digits d _
  atom_shape (multiple d name) = of_multiple d name.word _
  atom_shape (named name) = of_name name.word
  atom_shape (indexed name places) = of_call _ _ _ _ _
  atom_shape (called name) = of_call _ _ _ [] _
  atom_shape (called_at name places) = of_call _ _ _ _ _
  atom_shape (sum over a) = of_call _ _ _ _ _
  atom_shape (product over a) = of_call _ _ _ _ _
  atom_shape (extreme which a b) = of_extreme which _ _
  atom_shape (extreme_over which name other list a) =
      of_extreme which (in_parentheses (names_text (name ∷ other ∷ list)) ++ mark "," ∷ or_text a) _
  atom_shape (cast kind a) = of_call _ _ (codes ")") (word (kind_word kind) ∷ mark "," ∷ or_text a) _
  atom_shape (choice a b c) = of_call _ _ _ _ _
  atom_shape (grouped a) = of_parentheses _ _ _ _ (or_shape a)

pub lone : LoneWordsAreNames
lone w steps h = let e = (or_shape h.tree).bare w h.spelled in let f = h.means in cc

pub in_signs : WordsInSignsAreNames
in_signs s w t steps h = let e = (or_shape h.tree).inside s w t h.spelled in let f = h.means in cc
