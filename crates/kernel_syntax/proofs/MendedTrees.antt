-- Each text of the grammar, with other bytes where tokens are not spelled well.
use Rattle.std.proofs.Common.{List, ◌∷◌, map, refl, codes}
use Rattle.wrap_words.specs.declared.kind.Kind.{Kind}
use Rattle.wrap_words.specs.declared.kind.Kind.TheVariants.{I32, I64, U32, U64}
use Rattle.text_reader.specs.declared.form.Form.TheVariants.{Kernel}
use Rattle.text_reader.specs.Spelling.{IsWord}
use Rattle.kernel_grammar.specs.declared.step.Extreme.{Extreme}
use Rattle.kernel_grammar.specs.declared.step.Extreme.TheVariants.{Min, Max}
use Rattle.kind_faults.specs.Words.{kind_word}
use Rattle.kernel_grammar.specs.Lexicals.{Lexical, word, key, mark}
use Rattle.kernel_grammar.specs.Words.{Name}
use Rattle.kernel_grammar.specs.Trees.{Rel, at_most, less, at_least, more, equal, equals, Over, bare, names}
use Rattle.kernel_grammar.specs.Trees.{Or, or_of, or, And, and_of, and, Not, not_of, not, Cmp, cmp_of, related, unequal, Bor, bor_of, bor, Bxor, bxor_of, bxor, Band, band_of, band, Shift, shift_of, left, right, Sum, sum_of, plus, minus, Sums, one, first, Prod, prod_of, times, quotient, remainder, Unary, unary_of, negated, inverted, Atom, digits, multiple, named, indexed, called, called_at, sum, product, extreme, extreme_over, cast, choice, grouped}
use Rattle.kernel_grammar.specs.Spelling.{rel_text, extreme_text, name_text, names_text, over_text, in_parentheses, in_brackets, of_two, of_three, or_text, and_text, not_text, cmp_text, bor_text, bxor_text, band_text, shift_text, sum_text, sums_text, prod_text, unary_text, atom_text}
use Rattle.kernel_syntax.specs.TokenTexts.{IsWell}
use Rattle.kernel_syntax.proofs.MendedTokens.{word_well, mend_number, mend_name, Good, none, both, behind_token, behind_word, behind_number, good_list}

-- A tree whose text is that of another, mended.
abbrev pub Mended : {X : Type 0} → (X → List Lexical) → X → Type 0
Mended {X} spell x = (tree : X) × Good (spell x) (spell tree)

pub good_rel : (rel : Rel) → IsWell (rel_text rel)
good_rel at_most = refl
good_rel less = refl
good_rel at_least = refl
good_rel more = refl
good_rel equal = refl
good_rel equals = refl

pub good_extreme : (which : Extreme) → IsWell (extreme_text which)
good_extreme Min = word_well (codes "min") refl
good_extreme Max = word_well (codes "max") refl

pub good_kind : (kind : Kind) → IsWord Kernel (kind_word kind)
good_kind I32 = word_well (codes "int32") refl
good_kind I64 = word_well (codes "int64") refl
good_kind U32 = word_well (codes "uint32") refl
good_kind U64 = word_well (codes "uint64") refl

pub good_name : (name : Name) → Good (name_text name) (name_text (mend_name name))
good_name name = behind_word name.word none

pub good_names : (list : List Name) → Good (names_text list) (names_text (map mend_name list))
good_names list = good_list name_text (mark ",") refl mend_name good_name list

pub parenthesized : {a b : List Lexical} → Good a b → Good (in_parentheses a) (in_parentheses b)
parenthesized h = behind_token (mark "(") refl (both h (behind_token (mark ")") refl none))

pub bracketed : {a b : List Lexical} → Good a b → Good (in_brackets a) (in_brackets b)
bracketed h = behind_token (mark "[") refl (both h (behind_token (mark "]") refl none))

two_places : {a b c d : List Lexical} → Good a b → Good c d → Good (of_two a c) (of_two b d)
two_places h k = parenthesized (both h (behind_token (mark ",") refl k))

three_places : {a b c d e f : List Lexical} → Good a b → Good c d → Good e f → Good (of_three a c e) (of_three b d f)
three_places h k l = parenthesized (both (both h (behind_token (mark ",") refl k)) (behind_token (mark ",") refl l))

good_over : (over : Over) → Mended over_text over
good_over (bare name) = (bare (mend_name name), good_name name)
good_over (names name list) = (names (mend_name name) (map mend_name list), parenthesized (good_names (name ∷ list)))

mutual
  pub good_or : (x : Or) → Mended or_text x
  good_or (or_of a) = let h = good_and a in (or_of h.0, h.1)
  good_or (or a b) = let h = good_or a in let k = good_and b in (or h.0 k.0, both h.1 (behind_token (key "or") (word_well (codes "or") refl) k.1))

  good_and : (x : And) → Mended and_text x
  good_and (and_of a) = let h = good_not a in (and_of h.0, h.1)
  good_and (and a b) = let h = good_and a in let k = good_not b in (and h.0 k.0, both h.1 (behind_token (key "and") (word_well (codes "and") refl) k.1))

  good_not : (x : Not) → Mended not_text x
  good_not (not_of a) = let h = good_cmp a in (not_of h.0, h.1)
  good_not (not a) = let h = good_not a in (not h.0, behind_token (key "not") (word_well (codes "not") refl) h.1)

  good_cmp : (x : Cmp) → Mended cmp_text x
  good_cmp (cmp_of a) = let h = good_bor a in (cmp_of h.0, h.1)
  good_cmp (related a rel b) = let h = good_bor a in let k = good_bor b in (related h.0 rel k.0, both h.1 (behind_token (rel_text rel) (good_rel rel) k.1))
  good_cmp (unequal a b) = let h = good_bor a in let k = good_bor b in (unequal h.0 k.0, both h.1 (behind_token (mark "!=") refl k.1))

  good_bor : (x : Bor) → Mended bor_text x
  good_bor (bor_of a) = let h = good_bxor a in (bor_of h.0, h.1)
  good_bor (bor a b) = let h = good_bor a in let k = good_bxor b in (bor h.0 k.0, both h.1 (behind_token (mark "|") refl k.1))

  good_bxor : (x : Bxor) → Mended bxor_text x
  good_bxor (bxor_of a) = let h = good_band a in (bxor_of h.0, h.1)
  good_bxor (bxor a b) = let h = good_bxor a in let k = good_band b in (bxor h.0 k.0, both h.1 (behind_token (mark "^") refl k.1))

  good_band : (x : Band) → Mended band_text x
  good_band (band_of a) = let h = good_shift a in (band_of h.0, h.1)
  good_band (band a b) = let h = good_band a in let k = good_shift b in (band h.0 k.0, both h.1 (behind_token (mark "&") refl k.1))

  good_shift : (x : Shift) → Mended shift_text x
  good_shift (shift_of a) = let h = good_sum a in (shift_of h.0, h.1)
  good_shift (left a count) = let h = good_shift a in (left h.0 (mend_number count), both h.1 (behind_token (mark "<<") refl (behind_number count none)))
  good_shift (right a count) = let h = good_shift a in (right h.0 (mend_number count), both h.1 (behind_token (mark ">>") refl (behind_number count none)))

  good_sum : (x : Sum) → Mended sum_text x
  good_sum (sum_of a) = let h = good_prod a in (sum_of h.0, h.1)
  good_sum (plus a b) = let h = good_sum a in let k = good_prod b in (plus h.0 k.0, both h.1 (behind_token (mark "+") refl k.1))
  good_sum (minus a b) = let h = good_sum a in let k = good_prod b in (minus h.0 k.0, both h.1 (behind_token (mark "-") refl k.1))

  pub good_sums : (x : Sums) → Mended sums_text x
  good_sums (one a) = let h = good_sum a in (one h.0, h.1)
  good_sums (first a b) = let h = good_sum a in let k = good_sums b in (first h.0 k.0, both h.1 (behind_token (mark ",") refl k.1))

  good_prod : (x : Prod) → Mended prod_text x
  good_prod (prod_of a) = let h = good_unary a in (prod_of h.0, h.1)
  good_prod (times a b) = let h = good_prod a in let k = good_unary b in (times h.0 k.0, both h.1 (behind_token (mark "*") refl k.1))
  good_prod (quotient a b) = let h = good_prod a in let k = good_unary b in (quotient h.0 k.0, both h.1 (behind_token (mark "//") refl k.1))
  good_prod (remainder a b) = let h = good_prod a in let k = good_unary b in (remainder h.0 k.0, both h.1 (behind_token (mark "%") refl k.1))

  good_unary : (x : Unary) → Mended unary_text x
  good_unary (unary_of a) = let h = good_atom a in (unary_of h.0, h.1)
  good_unary (negated a) = let h = good_unary a in (negated h.0, behind_token (mark "-") refl h.1)
  good_unary (inverted a) = let h = good_unary a in (inverted h.0, behind_token (mark "~") refl h.1)

  good_atom : (x : Atom) → Mended atom_text x
  good_atom (digits d) = (digits (mend_number d), behind_number d none)
  good_atom (multiple d name) = (multiple (mend_number d) (mend_name name), behind_number d (good_name name))
  good_atom (named name) = (named (mend_name name), good_name name)
  good_atom (indexed name places) = let h = good_sums places in (indexed (mend_name name) h.0, behind_word name.word (bracketed h.1))
  good_atom (called name) = (called (mend_name name), behind_word name.word (parenthesized none))
  good_atom (called_at name places) = let h = good_sums places in (called_at (mend_name name) h.0, behind_word name.word (parenthesized h.1))
  good_atom (sum over a) = let h = good_over over in let k = good_or a in (sum h.0 k.0, behind_token (key "sum") (word_well (codes "sum") refl) (two_places h.1 k.1))
  good_atom (product over a) = let h = good_over over in let k = good_or a in (product h.0 k.0, behind_token (key "product") (word_well (codes "product") refl) (two_places h.1 k.1))
  good_atom (extreme which a b) = let h = good_or a in let k = good_or b in (extreme which h.0 k.0, behind_token (extreme_text which) (good_extreme which) (two_places h.1 k.1))
  good_atom (extreme_over which name other list a) =
      let k = good_or a in (extreme_over which (mend_name name) (mend_name other) (map mend_name list) k.0, behind_token (extreme_text which) (good_extreme which) (two_places (parenthesized (good_names (name ∷ other ∷ list))) k.1))
  good_atom (cast kind a) = let h = good_or a in (cast kind h.0, behind_token (key "cast") (word_well (codes "cast") refl) (two_places (behind_token (word (kind_word kind)) (good_kind kind) none) h.1))
  good_atom (choice a b c) = let h = good_or a in let k = good_or b in let l = good_or c in (choice h.0 k.0 l.0, behind_token (key "if") (word_well (codes "if") refl) (three_places h.1 k.1 l.1))
  good_atom (grouped a) = let h = good_or a in (grouped h.0, parenthesized h.1)
