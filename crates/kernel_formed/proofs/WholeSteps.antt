-- The steps of each expression leave one part.
use Rattle.std.proofs.Common.{◌≡◌, ℕ, ◌+◌, ◌-◌, Bool, true, false, ◌&&◌, cond, nat_le, nat_lt, List, [], ◌∷◌, ◌++◌, length, Some, None, arith, refl, sym, ap, ◌∙◌, append_assoc, append-nil}
use Rattle.std.specs.Prelude.{option_and_then}
use Rattle.std.specs.List.{list_all}
use Rattle.std.proofs.lemmas.Bool.{lt-ltb, le-leb, true≢false}
use Rattle.kernel_grammar.specs.declared.step.Step.{Step}
use Rattle.kernel_grammar.specs.declared.step.Step.TheVariants as step
use Rattle.kernel_grammar.specs.declared.step.Extreme.{Extreme}
use Rattle.kernel_grammar.specs.declared.step.Infix.{Infix}
use Rattle.kernel_grammar.specs.Lexicals.{Lexical, word, sign}
use Rattle.kernel_grammar.specs.Trees.{Over, bare, names, Or, or_of, or, And, and_of, and, Not, not_of, not, Cmp, cmp_of, related, unequal, Bor, bor_of, bor, Bxor, bxor_of, bxor, Band, band_of, band, Shift, shift_of, left, right, Sum, sum_of, plus, minus, Sums, one, first, Prod, prod_of, times, quotient, remainder, Unary, unary_of, negated, inverted, Atom, digits, multiple, named, indexed, called, called_at, sum, product, extreme, extreme_over, cast, choice, grouped}
use Rattle.kernel_grammar.specs.Spelling.{or_text}
use Rattle.kernel_grammar.specs.Steps.{inames_of, joined, postfix, extreme_steps, or_steps, and_steps, not_steps, cmp_steps, bor_steps, bxor_steps, band_steps, shift_steps, sum_steps, sums_steps, prod_steps, unary_steps, atom_steps}
use Rattle.kernel_formed.specs.Shapes.{operands, has_names, after_step, after_steps, is_one, is_whole}

-- the steps leave so many parts more, whatever is behind them and however many parts there are
record Leaves (steps : List Step) (count : ℕ) : Type 0 where
  more : (rest : List Step) (n : ℕ) → after_steps (steps ++ rest) n ≡ after_steps rest (n + count)

abbrev Whole : List Step → Type 0
Whole steps = Leaves steps 1

no_steps : Leaves [] 0
no_steps = record { more = λ rest n. ap (after_steps rest) (let e : n ≡ n + 0 = omega arith in e) }

-- one list of steps and then another
both_leave : (a b : List Step) (count more all : ℕ) → Leaves a count → Leaves b more → all ≡ count + more → Leaves (a ++ b) all
both_leave a b count more all h k e = record {
  more = λ rest n. ap (λ (ss : List Step). after_steps ss n) (append_assoc a b rest)
      ∙ (h.more (b ++ rest) n ∙ (k.more rest (n + count) ∙ ap (after_steps rest) (let same : n + count + more ≡ n + all = omega (arith, e) in same)));
}

step_by : (b c : Bool) (taken n m : ℕ) → b ≡ true → c ≡ true → n ≡ m + taken → cond (b && c) (Some (n - taken + 1)) None ≡ Some (m + 1)
step_by true true taken n m h k e = ap (λ (r : ℕ). Some (r + 1)) (let r : n - taken ≡ m = omega (arith, e) in r)
step_by true false taken n m h k e = absurd (true≢false (sym k))
step_by false c taken n m h k e = absurd (true≢false (sym h))

taken_by : (s : Step) (n : ℕ) → has_names s ≡ true → after_step s (n + operands s) ≡ Some (n + 1)
taken_by s n h = step_by (has_names s) (nat_le (operands s) (n + operands s)) (operands s) (n + operands s) n h (le-leb _ _ (omega arith)) refl

-- the operands of a step and then the step
one_behind : (steps : List Step) (s : Step) → Leaves steps (operands s) → has_names s ≡ true → Whole (steps ++ s ∷ [])
one_behind steps s h some_names = record {
  more = λ rest n. ap (λ (ss : List Step). after_steps ss n) (append_assoc steps (s ∷ []) rest)
      ∙ (h.more (s ∷ rest) n ∙ ap (option_and_then (after_steps rest)) (taken_by s n some_names));
}

of_two : (a b : List Step) (op : Infix) → Whole a → Whole b → Whole (postfix a b op)
of_two a b op h k = one_behind (a ++ b) (step.Infix op) (both_leave a b 1 1 2 h k refl) refl

some_words : (over : Over) → nat_lt 0 (length (inames_of over)) ≡ true
some_words (bare name) = refl
some_words (names name list) = lt-ltb _ _ (omega arith)

extremes : (which : Extreme) (text : List Lexical) (a b : List Step) → Whole a → Whole b → Whole (extreme_steps which text a b)
extremes which (word name ∷ []) a b h k = one_behind b (step.ExtremeOf which name) k refl
extremes which (sign before ∷ word name ∷ sign behind ∷ []) a b h k = one_behind b _ k refl
extremes which _ a b h k = of_two a b _ h k

mutual
  or_leaves : (x : Or) → Whole (or_steps x)
  or_leaves (or_of a) = and_leaves a
  or_leaves (or a b) = of_two _ _ _ (or_leaves a) (and_leaves b)

  and_leaves : (x : And) → Whole (and_steps x)
  and_leaves (and_of a) = not_leaves a
  and_leaves (and a b) = of_two _ _ _ (and_leaves a) (not_leaves b)

  not_leaves : (x : Not) → Whole (not_steps x)
  not_leaves (not_of a) = cmp_leaves a
  not_leaves (not a) = one_behind _ _ (not_leaves a) refl

  cmp_leaves : (x : Cmp) → Whole (cmp_steps x)
  cmp_leaves (cmp_of a) = bor_leaves a
  cmp_leaves (related a rel b) = of_two _ _ _ (bor_leaves a) (bor_leaves b)
  cmp_leaves (unequal a b) = of_two _ _ _ (bor_leaves a) (bor_leaves b)

  bor_leaves : (x : Bor) → Whole (bor_steps x)
  bor_leaves (bor_of a) = bxor_leaves a
  bor_leaves (bor a b) = of_two _ _ _ (bor_leaves a) (bxor_leaves b)

  bxor_leaves : (x : Bxor) → Whole (bxor_steps x)
  bxor_leaves (bxor_of a) = band_leaves a
  bxor_leaves (bxor a b) = of_two _ _ _ (bxor_leaves a) (band_leaves b)

  band_leaves : (x : Band) → Whole (band_steps x)
  band_leaves (band_of a) = shift_leaves a
  band_leaves (band a b) = of_two _ _ _ (band_leaves a) (shift_leaves b)

  shift_leaves : (x : Shift) → Whole (shift_steps x)
  shift_leaves (shift_of a) = sum_leaves a
  shift_leaves (left a count) = one_behind _ _ (shift_leaves a) refl
  shift_leaves (right a count) = one_behind _ _ (shift_leaves a) refl

  sum_leaves : (x : Sum) → Whole (sum_steps x)
  sum_leaves (sum_of a) = prod_leaves a
  sum_leaves (plus a b) = of_two _ _ _ (sum_leaves a) (prod_leaves b)
  sum_leaves (minus a b) = of_two _ _ _ (sum_leaves a) (prod_leaves b)

  sums_leave : (x : Sums) → Leaves (joined (sums_steps x)) (length (sums_steps x))
  sums_leave (one a) = both_leave (sum_steps a) [] 1 0 1 (sum_leaves a) no_steps refl
  sums_leave (first a b) =
      both_leave (sum_steps a) (joined (sums_steps b)) 1 (length (sums_steps b)) (length (sum_steps a ∷ sums_steps b)) (sum_leaves a) (sums_leave b)
      (omega arith)

  prod_leaves : (x : Prod) → Whole (prod_steps x)
  prod_leaves (prod_of a) = unary_leaves a
  prod_leaves (times a b) = of_two _ _ _ (prod_leaves a) (unary_leaves b)
  prod_leaves (quotient a b) = of_two _ _ _ (prod_leaves a) (unary_leaves b)
  prod_leaves (remainder a b) = of_two _ _ _ (prod_leaves a) (unary_leaves b)

  unary_leaves : (x : Unary) → Whole (unary_steps x)
  unary_leaves (unary_of a) = atom_leaves a
  unary_leaves (negated a) = one_behind _ _ (unary_leaves a) refl
  unary_leaves (inverted a) = one_behind _ _ (unary_leaves a) refl

  atom_leaves : (x : Atom) → Whole (atom_steps x)
  atom_leaves (digits d) = one_behind [] _ no_steps refl
  atom_leaves (multiple d name) = of_two (step.Number _ ∷ []) (step.Name _ ∷ []) _ (one_behind [] _ no_steps refl) (one_behind [] _ no_steps refl)
  atom_leaves (named name) = one_behind [] _ no_steps refl
  atom_leaves (indexed name places) = one_behind (joined (sums_steps places)) (step.Index name.word (length (sums_steps places))) (sums_leave places) refl
  atom_leaves (called name) = one_behind [] _ no_steps refl
  atom_leaves (called_at name places) = one_behind (joined (sums_steps places)) (step.Call name.word (length (sums_steps places))) (sums_leave places) refl
  atom_leaves (sum over a) = one_behind _ _ (or_leaves a) (some_words over)
  atom_leaves (product over a) = one_behind _ _ (or_leaves a) (some_words over)
  atom_leaves (extreme which a b) = extremes which (or_text a) _ _ (or_leaves a) (or_leaves b)
  atom_leaves (extreme_over which name other list a) = one_behind _ _ (or_leaves a) (lt-ltb _ _ (omega arith))
  atom_leaves (cast kind a) = one_behind _ _ (or_leaves a) refl
  atom_leaves (choice a b c) =
      one_behind ((or_steps a ++ or_steps b) ++ or_steps c) step.Choose
      (both_leave (or_steps a ++ or_steps b) (or_steps c) 2 1 3 (both_leave (or_steps a) (or_steps b) 1 1 2 (or_leaves a) (or_leaves b) refl)
      (or_leaves c) refl) refl
  atom_leaves (grouped a) = or_leaves a

whole_is : (steps : List Step) → Whole steps → is_whole steps ≡ true
whole_is steps h = ap (λ (ss : List Step). is_one (after_steps ss 0)) (sym (append-nil steps)) ∙ ap is_one (h.more [] 0)

pub or_whole : (x : Or) → is_whole (or_steps x) ≡ true
or_whole x = whole_is (or_steps x) (or_leaves x)

pub sums_whole : (x : Sums) → list_all is_whole (sums_steps x) ≡ true
sums_whole (one a) = ap (λ (b : Bool). b && true) (whole_is (sum_steps a) (sum_leaves a))
sums_whole (first a b) = ap (λ (c : Bool). c && list_all is_whole (sums_steps b)) (whole_is (sum_steps a) (sum_leaves a)) ∙ sums_whole b

pub some_sums : (x : Sums) → nat_lt 0 (length (sums_steps x)) ≡ true
some_sums (one a) = refl
some_sums (first a b) = lt-ltb _ _ (omega arith)
