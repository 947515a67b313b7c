-- No line end stands inside a line.
use Rattle.std.proofs.Common.{◌≡◌, ℕ, Bool, true, false, ◌&&◌, List, [], ◌∷◌, ◌++◌, Option, Some, None, ◌∙◌, refl, subst, map}
use Rattle.std.specs.List.{list_all}
use Rattle.std.proofs.lemmas.List.Folds.{list_all-append}
use Rattle.kernel_grammar.specs.declared.step.Extreme.TheVariants.{Min, Max}
use Rattle.kernel_grammar.specs.declared.step.Folding.TheVariants as folding
use Rattle.kernel_grammar.specs.declared.item.Stored.{Stored}
use Rattle.kernel_grammar.specs.declared.item.Stored.TheVariants.{Plain, Update}
use Rattle.kernel_grammar.specs.declared.item.Declared.{Declared}
use Rattle.kernel_grammar.specs.declared.item.Declared.TheVariants as declared
use Rattle.kernel_grammar.specs.declared.step.Extreme.{Extreme}
use Rattle.kernel_grammar.specs.Words.{Name}
use Rattle.kernel_grammar.specs.Lexicals.{Lexical, word, number, sign, is_inner, mark, listed}
use Rattle.kernel_grammar.specs.Trees.{Rel, at_most, less, at_least, more, equal, equals, Over, bare, names}
use Rattle.kernel_grammar.specs.Trees.{Or, or_of, or, And, and_of, and, Not, not_of, not, Cmp, cmp_of, related, unequal, Bor, bor_of, bor, Bxor, bxor_of, bxor, Band, band_of, band, Shift, shift_of, left, right, Sum, sum_of, plus, minus, Sums, one, first, Prod, prod_of, times, quotient, remainder, Unary, unary_of, negated, inverted, Atom, digits, multiple, named, indexed, called, called_at, sum, product, extreme, extreme_over, cast, choice, grouped}
use Rattle.kernel_grammar.specs.Spelling.{rel_text, extreme_text, names_text, over_text, in_parentheses, in_brackets, of_two, of_three, or_text, and_text, not_text, cmp_text, bor_text, bxor_text, band_text, shift_text, sum_text, sums_text, prod_text, unary_text, atom_text}
use Rattle.kernel_grammar.specs.Lines.{Chain, InsnOption, id, dep, inames, condition, Insn, Line, domain, assume, input, output, temp, rule, insn, links_text, chain_text, conds_text, ruled_text, numbers_text, ids_text, star_text, option_text, options_text, declared_text, place_text, stored_text, insn_text, line_text}
use Rattle.kernel_grammar.specs.Laws.{LinesHoldNoEnds}

record Inner (text : List Lexical) : Type 0 where
  all : list_all is_inner text ≡ true

both_true : (a b : Bool) → a ≡ true → b ≡ true → (a && b) ≡ true
both_true true b h k = k
both_true false b h k = h

none : Inner []
none = record { all = refl }

both : {xs ys : List Lexical} → Inner xs → Inner ys → Inner (xs ++ ys)
both {xs = xs} {ys = ys} h k = record { all = list_all-append is_inner xs ys ∙ both_true (list_all is_inner xs) (list_all is_inner ys) h.all k.all }

after_word : {w : List ℕ} {xs : List Lexical} → Inner xs → Inner (word w ∷ xs)
after_word h = record { all = h.all }

after_sign : {s : List ℕ} {xs : List Lexical} → Inner xs → Inner (sign s ∷ xs)
after_sign h = record { all = h.all }

after_number : {d : List ℕ} {xs : List Lexical} → Inner xs → Inner (number d ∷ xs)
after_number h = record { all = h.all }

after_rel : (rel : Rel) {xs : List Lexical} → Inner xs → Inner (rel_text rel ∷ xs)
after_rel at_most h = after_sign h
after_rel less h = after_sign h
after_rel at_least h = after_sign h
after_rel more h = after_sign h
after_rel equal h = after_sign h
after_rel equals h = after_sign h

after_extreme : (which : Extreme) {xs : List Lexical} → Inner xs → Inner (extreme_text which ∷ xs)
after_extreme Min h = after_word h
after_extreme Max h = after_word h

grouped_inner : {xs : List Lexical} → Inner xs → Inner (in_parentheses xs)
grouped_inner h = after_sign (both h (after_sign none))

bracketed : {xs : List Lexical} → Inner xs → Inner (in_brackets xs)
bracketed h = after_sign (both h (after_sign none))

two : {xs ys : List Lexical} → Inner xs → Inner ys → Inner (of_two xs ys)
two h k = grouped_inner (both h (after_sign k))

three : {xs ys zs : List Lexical} → Inner xs → Inner ys → Inner zs → Inner (of_three xs ys zs)
three h k l = grouped_inner (both (both h (after_sign k)) (after_sign l))

names_inner : (list : List Name) → Inner (names_text list)
names_inner [] = none
names_inner (a ∷ []) = after_word none
names_inner (a ∷ b ∷ list) = after_word (after_sign (names_inner (b ∷ list)))

ids_inner : (list : List Name) → Inner (ids_text list)
ids_inner [] = none
ids_inner (a ∷ []) = after_word none
ids_inner (a ∷ b ∷ list) = after_word (after_sign (ids_inner (b ∷ list)))

over_inner : (over : Over) → Inner (over_text over)
over_inner (bare name) = after_word none
over_inner (names name list) = grouped_inner (names_inner (name ∷ list))

mutual
  or_inner : (x : Or) → Inner (or_text x)
  or_inner (or_of a) = and_inner a
  or_inner (or a b) = both (or_inner a) (after_word (and_inner b))

  and_inner : (x : And) → Inner (and_text x)
  and_inner (and_of a) = not_inner a
  and_inner (and a b) = both (and_inner a) (after_word (not_inner b))

  not_inner : (x : Not) → Inner (not_text x)
  not_inner (not_of a) = cmp_inner a
  not_inner (not a) = after_word (not_inner a)

  cmp_inner : (x : Cmp) → Inner (cmp_text x)
  cmp_inner (cmp_of a) = bor_inner a
  cmp_inner (related a rel b) = both (bor_inner a) (after_rel rel (bor_inner b))
  cmp_inner (unequal a b) = both (bor_inner a) (after_sign (bor_inner b))

  bor_inner : (x : Bor) → Inner (bor_text x)
  bor_inner (bor_of a) = bxor_inner a
  bor_inner (bor a b) = both (bor_inner a) (after_sign (bxor_inner b))

  bxor_inner : (x : Bxor) → Inner (bxor_text x)
  bxor_inner (bxor_of a) = band_inner a
  bxor_inner (bxor a b) = both (bxor_inner a) (after_sign (band_inner b))

  band_inner : (x : Band) → Inner (band_text x)
  band_inner (band_of a) = shift_inner a
  band_inner (band a b) = both (band_inner a) (after_sign (shift_inner b))

  shift_inner : (x : Shift) → Inner (shift_text x)
  shift_inner (shift_of a) = sum_inner a
  shift_inner (left a n) = both (shift_inner a) (after_sign (after_number none))
  shift_inner (right a n) = both (shift_inner a) (after_sign (after_number none))

  sum_inner : (x : Sum) → Inner (sum_text x)
  sum_inner (sum_of a) = prod_inner a
  sum_inner (plus a b) = both (sum_inner a) (after_sign (prod_inner b))
  sum_inner (minus a b) = both (sum_inner a) (after_sign (prod_inner b))

  sums_inner : (x : Sums) → Inner (sums_text x)
  sums_inner (one a) = sum_inner a
  sums_inner (first a b) = both (sum_inner a) (after_sign (sums_inner b))

  prod_inner : (x : Prod) → Inner (prod_text x)
  prod_inner (prod_of a) = unary_inner a
  prod_inner (times a b) = both (prod_inner a) (after_sign (unary_inner b))
  prod_inner (quotient a b) = both (prod_inner a) (after_sign (unary_inner b))
  prod_inner (remainder a b) = both (prod_inner a) (after_sign (unary_inner b))

  unary_inner : (x : Unary) → Inner (unary_text x)
  unary_inner (unary_of a) = atom_inner a
  unary_inner (negated a) = after_sign (unary_inner a)
  unary_inner (inverted a) = after_sign (unary_inner a)

  atom_inner : (x : Atom) → Inner (atom_text x)
  atom_inner (digits d) = after_number none
  atom_inner (multiple d name) = after_number (after_word none)
  atom_inner (named name) = after_word none
  atom_inner (indexed name places) = after_word (bracketed (sums_inner places))
  atom_inner (called name) = after_word (grouped_inner none)
  atom_inner (called_at name places) = after_word (grouped_inner (sums_inner places))
  atom_inner (sum over a) = after_word (two (over_inner over) (or_inner a))
  atom_inner (product over a) = after_word (two (over_inner over) (or_inner a))
  atom_inner (extreme which a b) = after_extreme which (two (or_inner a) (or_inner b))
  atom_inner (extreme_over which name other list a) = after_extreme which (two (grouped_inner (names_inner (name ∷ other ∷ list))) (or_inner a))
  atom_inner (cast kind a) = after_word (two (after_word none) (or_inner a))
  atom_inner (choice a b c) = after_word (three (or_inner a) (or_inner b) (or_inner c))
  atom_inner (grouped a) = grouped_inner (or_inner a)

links_inner : (links : List (Rel × Sums)) → Inner (links_text links)
links_inner [] = none
links_inner (link ∷ links) = after_rel link.0 (both (sums_inner link.1) (links_inner links))

chain_inner : (chain : Chain) → Inner (chain_text chain)
chain_inner chain = both (sums_inner chain.first) (links_inner ((chain.rel, chain.second) ∷ chain.more))

conds_inner : (chains : List Chain) → Inner (conds_text chains)
conds_inner [] = none
conds_inner (a ∷ []) = chain_inner a
conds_inner (a ∷ b ∷ chains) = both (chain_inner a) (after_word (conds_inner (b ∷ chains)))

ruled_inner : (chains : List Chain) → Inner (ruled_text chains)
ruled_inner [] = none
ruled_inner (a ∷ chains) = after_sign (conds_inner (a ∷ chains))

digits_inner : (shape : List (List ℕ)) → Inner (listed (mark ",") (map (λ d. number d ∷ []) shape))
digits_inner [] = none
digits_inner (a ∷ []) = after_number none
digits_inner (a ∷ b ∷ shape) = after_number (after_sign (digits_inner (b ∷ shape)))

numbers_inner : (shape : List (List ℕ)) → Inner (numbers_text shape)
numbers_inner [] = none
numbers_inner (a ∷ shape) = bracketed (digits_inner (a ∷ shape))

star_inner : (star : Bool) → Inner (star_text star)
star_inner true = after_sign none
star_inner false = none

option_inner : (option : InsnOption) → Inner (option_text option)
option_inner (id name) = after_word (after_sign (after_word none))
option_inner (dep star list) = after_word (after_sign (both (star_inner star) (ids_inner list)))
option_inner (inames name list) = after_word (after_sign (ids_inner (name ∷ list)))
option_inner (condition test) = after_word (after_sign (or_inner test))

chosen_inner : (options : List InsnOption) → Inner (listed (mark ",") (map option_text options))
chosen_inner [] = none
chosen_inner (a ∷ []) = option_inner a
chosen_inner (a ∷ b ∷ options) = both (option_inner a) (after_sign (chosen_inner (b ∷ options)))

options_inner : (options : Option (List InsnOption)) → Inner (options_text options)
options_inner None = none
options_inner (Some options) = after_sign (both (chosen_inner options) (after_sign none))

declared_inner : (d : Declared) → Inner (declared_text d)
declared_inner declared.Not = none
declared_inner declared.Inferred = after_sign (after_sign none)
declared_inner (declared.Of kind) = after_sign (after_word (after_sign none))

place_inner : (place : Option Sums) → Inner (place_text place)
place_inner None = none
place_inner (Some places) = bracketed (sums_inner places)

stored_inner : (stored : Stored) → Inner (stored_text stored)
stored_inner Plain = after_sign none
stored_inner (Update folding.Sum) = after_sign none
stored_inner (Update folding.Product) = after_sign none
stored_inner (Update (folding.Extreme which)) = after_extreme which (after_sign none)

insn_inner : (i : Insn) → Inner (insn_text i)
insn_inner i = both (both (both (both (both (declared_inner i.declared) (after_word none)) (place_inner i.place)) (stored_inner i.stored)) (or_inner i.value)) (options_inner i.options)

line_inner : (line : Line) → Inner (line_text line)
line_inner (domain known made conds) =
    after_word (both (both (both (bracketed (names_inner known)) (after_sign (after_sign (bracketed (names_inner made))))) (ruled_inner conds)) (after_sign none))
line_inner (assume chain chains) = after_word (conds_inner (chain ∷ chains))
line_inner (input name kind shape) = after_word (after_word (after_sign (after_word (bracketed (sums_inner shape)))))
line_inner (output name kind shape) = after_word (after_word (after_sign (after_word (bracketed (sums_inner shape)))))
line_inner (temp name kind shape) = after_word (after_word (after_sign (after_word (numbers_inner shape))))
line_inner (rule name params body) = after_word (both (grouped_inner (names_inner params)) (after_sign (or_inner body)))
line_inner (insn i) = insn_inner i

pub no_ends : LinesHoldNoEnds
no_ends text syntax h = subst (λ all. list_all is_inner all ≡ true) h.spelled (line_inner h.tree).all
