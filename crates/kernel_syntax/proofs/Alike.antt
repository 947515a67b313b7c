-- A line stays one if its names and numbers are others, and the texts of lines hold no signs but those of the reader.
use Rattle.std.proofs.Common.{◌≡◌, ◌⊎◌, inl, inr, ℕ, Bool, true, false, not, ◌&&◌, List, [], ◌∷◌, ◌++◌, map, Option, Some, None, ap, sym, refl, ◌∙◌, codes, bytes_eq}
use Rattle.std.specs.List.{list_all, list_any}
use Rattle.std.proofs.lemmas.List.Folds.{list_all-append}
use Rattle.text_reader.specs.declared.form.Form.TheVariants.{Kernel}
use Rattle.text_reader.specs.Spelling.{is_sign}
use Rattle.wrap_words.specs.declared.kind.Kind.{Kind}
use Rattle.wrap_words.specs.declared.kind.Kind.TheVariants.{I32, I64, U32, U64}
use Rattle.kind_faults.specs.Words.{kind_word}
use Rattle.kernel_grammar.specs.declared.step.Extreme.{Extreme}
use Rattle.kernel_grammar.specs.declared.step.Extreme.TheVariants.{Min, Max}
use Rattle.kernel_grammar.specs.declared.step.Folding.TheVariants as folding
use Rattle.kernel_grammar.specs.declared.item.Stored.{Stored}
use Rattle.kernel_grammar.specs.declared.item.Stored.TheVariants.{Plain, Update}
use Rattle.kernel_grammar.specs.declared.item.Declared.{Declared}
use Rattle.kernel_grammar.specs.declared.item.Declared.TheVariants as declared
use Rattle.kernel_grammar.specs.Words.{Name, is_reserved}
use Rattle.kernel_grammar.specs.Lexicals.{Lexical, word, number, sign, line_end, key, mark, listed}
use Rattle.kernel_grammar.specs.Trees.{Rel, at_most, less, at_least, more, equal, equals, Over, bare, names}
use Rattle.kernel_grammar.specs.Trees.{Or, or_of, or, And, and_of, and, Not, not_of, not as not_not, Cmp, cmp_of, related, unequal, Bor, bor_of, bor, Bxor, bxor_of, bxor, Band, band_of, band, Shift, shift_of, left, right, Sum, sum_of, plus, minus, Sums, one, first, Prod, prod_of, times, quotient, remainder, Unary, unary_of, negated, inverted, Atom, digits, multiple, named, indexed, called, called_at, sum, product, extreme, extreme_over, cast, choice, grouped}
use Rattle.kernel_grammar.specs.Spelling.{rel_text, extreme_text, name_text, names_text, over_text, in_parentheses, in_brackets, of_two, or_text, and_text, not_text, cmp_text, bor_text, bxor_text, band_text, shift_text, sum_text, sums_text, prod_text, unary_text, atom_text}
use Rattle.kernel_grammar.specs.Lines.{Chain, InsnOption, id, dep, inames, condition, Insn, Line, domain, assume, input, output, temp, rule, insn, links_text, chain_text, conds_text, ruled_text, numbers_text, star_text, option_text, options_text, declared_text, place_text, stored_text, insn_text, line_text}
use Rattle.kernel_grammar.specs.Files.{lines_text}
use Rattle.kernel_expressions.specs.Settled.{Spells}

-- the names that are options' words
abbrev pub option_words : List (List ℕ)
option_words = codes "id" ∷ codes "dep" ∷ codes "inames" ∷ []

-- a number, or a name that is no option's word
abbrev pub is_free : Lexical → Bool
is_free (word w) = not (is_reserved w) && not (list_any (bytes_eq w) option_words)
is_free (number d) = true
is_free (sign s) = false
is_free line_end = false

-- a number or a name
abbrev pub is_open : Lexical → Bool
is_open (word w) = not (is_reserved w)
is_open (number d) = true
is_open (sign s) = false
is_open line_end = false

-- a number
abbrev pub is_number : Lexical → Bool
is_number (word w) = false
is_number (number d) = true
is_number (sign s) = false
is_number line_end = false

-- One number stands for another, or a name for one that is no option's word.
pub record Renamed (x y : Lexical) : Type 0 where
  pub was : is_free x ≡ true
  pub now : is_open y ≡ true
  pub class : is_number y ≡ is_number x

-- the tokens are equal, or one stands for the other
abbrev pub Alike : Lexical → Lexical → Type 0
Alike x y = (y ≡ x) ⊎ Renamed x y

-- the tokens are alike, one by one
abbrev pub AreAlike : List Lexical → List Lexical → Type 0
AreAlike [] [] = Unit {0}
AreAlike [] (y ∷ ys) = ⊥
AreAlike (x ∷ xs) [] = ⊥
AreAlike (x ∷ xs) (y ∷ ys) = Alike x y × AreAlike xs ys

-- a sign is one of the reader
abbrev pub is_sound : Lexical → Bool
is_sound (word w) = true
is_sound (number d) = true
is_sound (sign s) = is_sign Kernel s
is_sound line_end = true

-- the token is one that the grammar quotes, or a line's end
abbrev pub is_fixed : Lexical → Bool
is_fixed (word w) = not (is_free (word w))
is_fixed (number d) = false
is_fixed (sign s) = is_sign Kernel s
is_fixed line_end = true

no_both : (b : Bool) → not b ≡ true → b ≡ true → ⊥
no_both true h k = absurd (cc)
no_both false h k = absurd (cc)

pub fixed_stays : (x y : Lexical) → is_fixed x ≡ true → Alike x y → y ≡ x
fixed_stays x y f (inl e) = e
fixed_stays (word w) y f (inr r) = absurd (no_both (is_free (word w)) f r.was)
fixed_stays (number d) y f (inr r) = absurd (cc)
fixed_stays (sign s) y f (inr r) = absurd (let e : false ≡ true = r.was in cc)
fixed_stays line_end y f (inr r) = absurd (let e : false ≡ true = r.was in cc)

fixed_sound : (x : Lexical) → is_fixed x ≡ true → is_sound x ≡ true
fixed_sound (word w) f = refl
fixed_sound (number d) f = refl
fixed_sound (sign s) f = f
fixed_sound line_end f = refl

-- The list is one list like the first and one like the second behind it.
record Split (xs ys us : List Lexical) : Type 0 where
  front : List Lexical
  rest : List Lexical
  whole : us ≡ front ++ rest
  like_front : AreAlike xs front
  like_rest : AreAlike ys rest

split : (xs ys us : List Lexical) → AreAlike (xs ++ ys) us → Split xs ys us
split [] ys us h = record { front = []; rest = us; whole = refl; like_front = tt; like_rest = h }
split (x ∷ xs) ys [] h = absurd h
split (x ∷ xs) ys (u ∷ us) h = let s = split xs ys us h.1 in record {
  front = u ∷ s.front;
  rest = s.rest;
  whole = ap (λ vs. u ∷ vs) s.whole;
  like_front = (h.0, s.like_front);
  like_rest = s.like_rest;
}

-- Each list like the text is a text of the sort, and the signs of the text are signs of the reader.
pub record Kept {X : Type 0} (spell : X → List Lexical) (text : List Lexical) : Type 0 where
  pub sound : list_all is_sound text ≡ true
  pub to : (us : List Lexical) → AreAlike text us → Spells spell us

both_true : (a b : Bool) → a ≡ true → b ≡ true → (a && b) ≡ true
both_true true b h k = k
both_true false b h k = h

-- ---- texts of pieces

nothing : Kept (λ (x : Unit {0}). []) []
nothing = record { sound = refl; to = λ us h. record { tree = tt; spelled = none us h } } where
  none : (us : List Lexical) → AreAlike [] us → [] ≡ us
  none [] h = refl
  none (u ∷ us) h = absurd h

lift : {X Y : Type 0} {f : X → List Lexical} {g : Y → List Lexical} {t : List Lexical} → Kept f t → (make : X → Y) → ((x : X) → g (make x) ≡ f x) → Kept g t
lift k make e = record { sound = k.sound; to = λ us h. let s = k.to us h in record { tree = make s.tree; spelled = e s.tree ∙ s.spelled } }

join : {X Y : Type 0} {f : X → List Lexical} {g : Y → List Lexical} {t v : List Lexical} → Kept f t → Kept g v → Kept (λ (p : X × Y). f p.0 ++ g p.1) (t ++ v)
join {f = f} {g = g} {t = t} {v = v} k l = record {
  sound = list_all-append is_sound t v ∙ both_true (list_all is_sound t) (list_all is_sound v) k.sound l.sound;
  to = λ us h. let s = split t v us h in let a = k.to s.front s.like_front in let b = l.to s.rest s.like_rest in record {
    tree = (a.tree, b.tree);
    spelled = ap (λ xs. xs ++ g b.tree) a.spelled ∙ ap (λ xs. s.front ++ xs) b.spelled ∙ sym s.whole;
  };
}

fixed : {X : Type 0} {f : X → List Lexical} {t : List Lexical} (x : Lexical) → is_fixed x ≡ true → Kept f t → Kept (λ a. x ∷ f a) (x ∷ t)
fixed {X} {f} {t} x e k = record { sound = both_true (is_sound x) (list_all is_sound t) (fixed_sound x e) k.sound; to = go } where
  go : (us : List Lexical) → AreAlike (x ∷ t) us → Spells (λ a. x ∷ f a) us
  go [] h = absurd h
  go (u ∷ us) h = let s = k.to us h.1 in record { tree = s.tree; spelled = ap (λ xs. x ∷ xs) s.spelled ∙ ap (λ y. y ∷ us) (sym (fixed_stays x u e h.0)) }

closed : {X : Type 0} {f : X → List Lexical} {t : List Lexical} (x : Lexical) → is_fixed x ≡ true → Kept f t → Kept (λ a. f a ++ x ∷ []) (t ++ x ∷ [])
closed x e k = lift (join k (fixed x e nothing)) (λ p. p.0) (λ p. refl)

parenthesized : {X : Type 0} {f : X → List Lexical} {t : List Lexical} → Kept f t → Kept (λ a. in_parentheses (f a)) (in_parentheses t)
parenthesized k = fixed (mark "(") refl (closed (mark ")") refl k)

bracketed : {X : Type 0} {f : X → List Lexical} {t : List Lexical} → Kept f t → Kept (λ a. in_brackets (f a)) (in_brackets t)
bracketed k = fixed (mark "[") refl (closed (mark "]") refl k)

both : {X Y : Type 0} {f : X → List Lexical} {g : Y → List Lexical} {t v : List Lexical} → Kept f t → Kept g v → Kept (λ (p : X × Y). of_two (f p.0) (g p.1)) (of_two t v)
both k l = parenthesized (join k (fixed (mark ",") refl l))

-- one or more
some : {X : Type 0} {f : X → List Lexical} (k : Lexical) → is_fixed k ≡ true → ((x : X) → Kept f (f x)) → (x : X) (xs : List X) → Kept (λ (p : X × List X). listed k (map f (p.0 ∷ p.1))) (listed k (map f (x ∷ xs)))
some k e keep x [] = lift (keep x) (λ y. (y, [])) (λ y. refl)
some k e keep x (y ∷ ys) = lift (join (keep x) (fixed k e (some k e keep y ys))) (λ p. (p.0, p.1.0 ∷ p.1.1)) (λ p. refl)

-- any number
any : {X : Type 0} {f : X → List Lexical} (k : Lexical) → is_fixed k ≡ true → ((x : X) → Kept f (f x)) → (xs : List X) → Kept (λ (ys : List X). listed k (map f ys)) (listed k (map f xs))
any k e keep [] = lift nothing (λ u. []) (λ u. refl)
any k e keep (x ∷ xs) = lift (some k e keep x xs) (λ p. p.0 ∷ p.1) (λ p. refl)

-- ---- names, numbers and what is quoted

pub not_true : (b : Bool) → not b ≡ true → b ≡ false
not_true true h = absurd (cc)
not_true false h = refl

a_name : (name : Name) → Kept name_text (name_text name)
a_name name = record { sound = refl; to = go } where
  go : (us : List Lexical) → AreAlike (name_text name) us → Spells name_text us
  go [] h = absurd h
  go (u ∷ v ∷ us) h = absurd h.1
  go (u ∷ []) (inl e, h) = record { tree = name; spelled = ap (λ y. y ∷ []) (sym e) }
  go (word w ∷ []) (inr r, h) = record { tree = record { word = w; free = not_true (is_reserved w) r.now }; spelled = refl }
  go (number d ∷ []) (inr r, h) = absurd (let e : true ≡ false = r.class in cc)
  go (sign s ∷ []) (inr r, h) = absurd (let e : false ≡ true = r.now in cc)
  go (line_end ∷ []) (inr r, h) = absurd (let e : false ≡ true = r.now in cc)

-- digits
abbrev number_text : List ℕ → List Lexical
number_text d = number d ∷ []

a_number : (d : List ℕ) → Kept number_text (number_text d)
a_number d = record { sound = refl; to = go } where
  go : (us : List Lexical) → AreAlike (number_text d) us → Spells number_text us
  go [] h = absurd h
  go (u ∷ v ∷ us) h = absurd h.1
  go (u ∷ []) (inl e, h) = record { tree = d; spelled = ap (λ y. y ∷ []) (sym e) }
  go (word w ∷ []) (inr r, h) = absurd (let e : false ≡ true = r.class in cc)
  go (number c ∷ []) (inr r, h) = record { tree = c; spelled = refl }
  go (sign s ∷ []) (inr r, h) = absurd (let e : false ≡ true = r.now in cc)
  go (line_end ∷ []) (inr r, h) = absurd (let e : false ≡ true = r.now in cc)

rel_fixed : (rel : Rel) → is_fixed (rel_text rel) ≡ true
rel_fixed at_most = refl
rel_fixed less = refl
rel_fixed at_least = refl
rel_fixed more = refl
rel_fixed equal = refl
rel_fixed equals = refl

extreme_fixed : (which : Extreme) → is_fixed (extreme_text which) ≡ true
extreme_fixed Min = refl
extreme_fixed Max = refl

kind_fixed : (kind : Kind) → is_fixed (word (kind_word kind)) ≡ true
kind_fixed I32 = refl
kind_fixed I64 = refl
kind_fixed U32 = refl
kind_fixed U64 = refl

some_names : (name : Name) (list : List Name) → Kept (λ (p : Name × List Name). names_text (p.0 ∷ p.1)) (names_text (name ∷ list))
some_names = some (mark ",") refl a_name

over_kept : (over : Over) → Kept over_text (over_text over)
over_kept (bare name) = lift (a_name name) bare (λ x. refl)
over_kept (names name list) = lift (parenthesized (some_names name list)) (λ p. names p.0 p.1) (λ p. refl)

-- ---- expressions

mutual
  or_kept : (x : Or) → Kept or_text (or_text x)
  or_kept (or_of a) = lift (and_kept a) or_of (λ x. refl)
  or_kept (or a b) = lift (join (or_kept a) (fixed (key "or") refl (and_kept b))) (λ p. or p.0 p.1) (λ p. refl)

  and_kept : (x : And) → Kept and_text (and_text x)
  and_kept (and_of a) = lift (not_kept a) and_of (λ x. refl)
  and_kept (and a b) = lift (join (and_kept a) (fixed (key "and") refl (not_kept b))) (λ p. and p.0 p.1) (λ p. refl)

  not_kept : (x : Not) → Kept not_text (not_text x)
  not_kept (not_of a) = lift (cmp_kept a) not_of (λ x. refl)
  not_kept (not_not a) = lift (fixed (key "not") refl (not_kept a)) not_not (λ x. refl)

  cmp_kept : (x : Cmp) → Kept cmp_text (cmp_text x)
  cmp_kept (cmp_of a) = lift (bor_kept a) cmp_of (λ x. refl)
  cmp_kept (related a rel b) = lift (join (bor_kept a) (fixed (rel_text rel) (rel_fixed rel) (bor_kept b))) (λ p. related p.0 rel p.1) (λ p. refl)
  cmp_kept (unequal a b) = lift (join (bor_kept a) (fixed (mark "!=") refl (bor_kept b))) (λ p. unequal p.0 p.1) (λ p. refl)

  bor_kept : (x : Bor) → Kept bor_text (bor_text x)
  bor_kept (bor_of a) = lift (bxor_kept a) bor_of (λ x. refl)
  bor_kept (bor a b) = lift (join (bor_kept a) (fixed (mark "|") refl (bxor_kept b))) (λ p. bor p.0 p.1) (λ p. refl)

  bxor_kept : (x : Bxor) → Kept bxor_text (bxor_text x)
  bxor_kept (bxor_of a) = lift (band_kept a) bxor_of (λ x. refl)
  bxor_kept (bxor a b) = lift (join (bxor_kept a) (fixed (mark "^") refl (band_kept b))) (λ p. bxor p.0 p.1) (λ p. refl)

  band_kept : (x : Band) → Kept band_text (band_text x)
  band_kept (band_of a) = lift (shift_kept a) band_of (λ x. refl)
  band_kept (band a b) = lift (join (band_kept a) (fixed (mark "&") refl (shift_kept b))) (λ p. band p.0 p.1) (λ p. refl)

  shift_kept : (x : Shift) → Kept shift_text (shift_text x)
  shift_kept (shift_of a) = lift (sum_kept a) shift_of (λ x. refl)
  shift_kept (left a n) = lift (join (shift_kept a) (fixed (mark "<<") refl (a_number n))) (λ p. left p.0 p.1) (λ p. refl)
  shift_kept (right a n) = lift (join (shift_kept a) (fixed (mark ">>") refl (a_number n))) (λ p. right p.0 p.1) (λ p. refl)

  sum_kept : (x : Sum) → Kept sum_text (sum_text x)
  sum_kept (sum_of a) = lift (prod_kept a) sum_of (λ x. refl)
  sum_kept (plus a b) = lift (join (sum_kept a) (fixed (mark "+") refl (prod_kept b))) (λ p. plus p.0 p.1) (λ p. refl)
  sum_kept (minus a b) = lift (join (sum_kept a) (fixed (mark "-") refl (prod_kept b))) (λ p. minus p.0 p.1) (λ p. refl)

  sums_kept : (x : Sums) → Kept sums_text (sums_text x)
  sums_kept (one a) = lift (sum_kept a) one (λ x. refl)
  sums_kept (first a b) = lift (join (sum_kept a) (fixed (mark ",") refl (sums_kept b))) (λ p. first p.0 p.1) (λ p. refl)

  prod_kept : (x : Prod) → Kept prod_text (prod_text x)
  prod_kept (prod_of a) = lift (unary_kept a) prod_of (λ x. refl)
  prod_kept (times a b) = lift (join (prod_kept a) (fixed (mark "*") refl (unary_kept b))) (λ p. times p.0 p.1) (λ p. refl)
  prod_kept (quotient a b) = lift (join (prod_kept a) (fixed (mark "//") refl (unary_kept b))) (λ p. quotient p.0 p.1) (λ p. refl)
  prod_kept (remainder a b) = lift (join (prod_kept a) (fixed (mark "%") refl (unary_kept b))) (λ p. remainder p.0 p.1) (λ p. refl)

  unary_kept : (x : Unary) → Kept unary_text (unary_text x)
  unary_kept (unary_of a) = lift (atom_kept a) unary_of (λ x. refl)
  unary_kept (negated a) = lift (fixed (mark "-") refl (unary_kept a)) negated (λ x. refl)
  unary_kept (inverted a) = lift (fixed (mark "~") refl (unary_kept a)) inverted (λ x. refl)

  atom_kept : (x : Atom) → Kept atom_text (atom_text x)
  atom_kept (digits d) = lift (a_number d) digits (λ x. refl)
  atom_kept (multiple d name) = lift (join (a_number d) (a_name name)) (λ p. multiple p.0 p.1) (λ p. refl)
  atom_kept (named name) = lift (a_name name) named (λ x. refl)
  atom_kept (indexed name places) = lift (join (a_name name) (bracketed (sums_kept places))) (λ p. indexed p.0 p.1) (λ p. refl)
  atom_kept (called name) = lift (join (a_name name) (parenthesized nothing)) (λ p. called p.0) (λ p. refl)
  atom_kept (called_at name places) = lift (join (a_name name) (parenthesized (sums_kept places))) (λ p. called_at p.0 p.1) (λ p. refl)
  atom_kept (sum over a) = lift (fixed (key "sum") refl (both (over_kept over) (or_kept a))) (λ p. sum p.0 p.1) (λ p. refl)
  atom_kept (product over a) = lift (fixed (key "product") refl (both (over_kept over) (or_kept a))) (λ p. product p.0 p.1) (λ p. refl)
  atom_kept (extreme which a b) = lift (fixed (extreme_text which) (extreme_fixed which) (both (or_kept a) (or_kept b))) (λ p. extreme which p.0 p.1) (λ p. refl)
  atom_kept (extreme_over which name other list a) =
      lift (fixed (extreme_text which) (extreme_fixed which) (both (parenthesized (join (a_name name) (fixed (mark ",") refl (some_names other list)))) (or_kept a)))
      (λ p. extreme_over which p.0.0 p.0.1.0 p.0.1.1 p.1) (λ p. refl)
  atom_kept (cast kind a) = lift (fixed (key "cast") refl (both (fixed (word (kind_word kind)) (kind_fixed kind) nothing) (or_kept a))) (λ p. cast kind p.1) (λ p. refl)
  atom_kept (choice a b c) = lift (fixed (key "if") refl (parenthesized (join (join (or_kept a) (fixed (mark ",") refl (or_kept b))) (fixed (mark ",") refl (or_kept c)))))
      (λ p. choice p.0.0 p.0.1 p.1) (λ p. refl)
  atom_kept (grouped a) = lift (parenthesized (or_kept a)) grouped (λ x. refl)

-- ---- lines

link_kept : (link : Rel × Sums) → Kept (λ (l : Rel × Sums). rel_text l.0 ∷ sums_text l.1) (rel_text link.0 ∷ sums_text link.1)
link_kept link = lift (fixed (rel_text link.0) (rel_fixed link.0) (sums_kept link.1)) (λ s. (link.0, s)) (λ s. refl)

links_kept : (links : List (Rel × Sums)) → Kept links_text (links_text links)
links_kept [] = lift nothing (λ u. []) (λ u. refl)
links_kept (link ∷ links) = lift (join (link_kept link) (links_kept links)) (λ p. p.0 ∷ p.1) (λ p. refl)

chain_kept : (chain : Chain) → Kept chain_text (chain_text chain)
chain_kept chain = lift (join (sums_kept chain.first) (join (link_kept (chain.rel, chain.second)) (links_kept chain.more)))
    (λ p. record { first = p.0; rel = p.1.0.0; second = p.1.0.1; more = p.1.1 }) (λ p. refl)

some_conds : (chain : Chain) (chains : List Chain) → Kept (λ (p : Chain × List Chain). conds_text (p.0 ∷ p.1)) (conds_text (chain ∷ chains))
some_conds = some (key "and") refl chain_kept

ruled_kept : (chains : List Chain) → Kept ruled_text (ruled_text chains)
ruled_kept [] = lift nothing (λ u. []) (λ u. refl)
ruled_kept (chain ∷ chains) = lift (fixed (mark ":") refl (some_conds chain chains)) (λ p. p.0 ∷ p.1) (λ p. refl)

numbers_kept : (shape : List (List ℕ)) → Kept numbers_text (numbers_text shape)
numbers_kept [] = lift nothing (λ u. []) (λ u. refl)
numbers_kept (d ∷ shape) = lift (bracketed (some (mark ",") refl a_number d shape)) (λ p. p.0 ∷ p.1) (λ p. refl)

star_kept : (star : Bool) → Kept star_text (star_text star)
star_kept true = lift (fixed (mark "*") refl nothing) (λ u. true) (λ u. refl)
star_kept false = lift nothing (λ u. false) (λ u. refl)

option_kept : (option : InsnOption) → Kept option_text (option_text option)
option_kept (id name) = lift (fixed (key "id") refl (fixed (mark "=") refl (a_name name))) id (λ x. refl)
option_kept (dep star list) = lift (fixed (key "dep") refl (fixed (mark "=") refl (join (star_kept star) (any (mark ":") refl a_name list)))) (λ p. dep p.0 p.1) (λ p. refl)
option_kept (inames name list) = lift (fixed (key "inames") refl (fixed (mark "=") refl (some (mark ":") refl a_name name list))) (λ p. inames p.0 p.1) (λ p. refl)
option_kept (condition test) = lift (fixed (key "if") refl (fixed (mark "=") refl (or_kept test))) condition (λ x. refl)

options_kept : (options : Option (List InsnOption)) → Kept options_text (options_text options)
options_kept None = lift nothing (λ u. None) (λ u. refl)
options_kept (Some options) = lift (fixed (mark "{") refl (closed (mark "}") refl (any (mark ",") refl option_kept options))) Some (λ x. refl)

declared_kept : (d : Declared) → Kept declared_text (declared_text d)
declared_kept declared.Not = lift nothing (λ u. declared.Not) (λ u. refl)
declared_kept declared.Inferred = lift (fixed (mark "<") refl (fixed (mark ">") refl nothing)) (λ u. declared.Inferred) (λ u. refl)
declared_kept (declared.Of kind) = lift (fixed (mark "<") refl (fixed (word (kind_word kind)) (kind_fixed kind) (fixed (mark ">") refl nothing))) (λ u. declared.Of kind) (λ u. refl)

place_kept : (place : Option Sums) → Kept place_text (place_text place)
place_kept None = lift nothing (λ u. None) (λ u. refl)
place_kept (Some places) = lift (bracketed (sums_kept places)) Some (λ x. refl)

stored_kept : (stored : Stored) → Kept stored_text (stored_text stored)
stored_kept Plain = lift (fixed (mark "=") refl nothing) (λ u. Plain) (λ u. refl)
stored_kept (Update folding.Sum) = lift (fixed (mark "+=") refl nothing) (λ u. Update folding.Sum) (λ u. refl)
stored_kept (Update folding.Product) = lift (fixed (mark "*=") refl nothing) (λ u. Update folding.Product) (λ u. refl)
stored_kept (Update (folding.Extreme which)) = lift (fixed (extreme_text which) (extreme_fixed which) (fixed (mark "=") refl nothing)) (λ u. Update (folding.Extreme which)) (λ u. refl)

insn_kept : (i : Insn) → Kept insn_text (insn_text i)
insn_kept i = lift (join (join (join (join (join (declared_kept i.declared) (a_name i.cell)) (place_kept i.place)) (stored_kept i.stored)) (or_kept i.value)) (options_kept i.options))
    (λ p. record { declared = p.0.0.0.0.0; cell = p.0.0.0.0.1; place = p.0.0.0.1; stored = p.0.0.1; value = p.0.1; options = p.1 }) (λ p. refl)

-- a name, its kind and what stands behind
typed : {X : Type 0} {f : X → List Lexical} {t : List Lexical} (x : Lexical) → is_fixed x ≡ true → (name : Name) (kind : Kind) → Kept f t
    → Kept (λ (p : Name × X). x ∷ word p.0.word ∷ mark ":" ∷ word (kind_word kind) ∷ f p.1) (x ∷ word name.word ∷ mark ":" ∷ word (kind_word kind) ∷ t)
typed x e name kind k = fixed x e (join (a_name name) (fixed (mark ":") refl (fixed (word (kind_word kind)) (kind_fixed kind) k)))

line_kept : (line : Line) → Kept line_text (line_text line)
line_kept (domain known made conds) =
    lift (fixed (key "domain") refl (closed (mark "}") refl (join (join (bracketed (any (mark ",") refl a_name known)) (fixed (mark "->") refl (fixed (mark "{") refl (bracketed (any (mark ",") refl a_name made))))) (ruled_kept conds))))
    (λ p. domain p.0.0 p.0.1 p.1) (λ p. refl)
line_kept (assume chain chains) = lift (fixed (key "assume") refl (some_conds chain chains)) (λ p. assume p.0 p.1) (λ p. refl)
line_kept (input name kind shape) = lift (typed (key "input") refl name kind (bracketed (sums_kept shape))) (λ p. input p.0 kind p.1) (λ p. refl)
line_kept (output name kind shape) = lift (typed (key "output") refl name kind (bracketed (sums_kept shape))) (λ p. output p.0 kind p.1) (λ p. refl)
line_kept (temp name kind shape) = lift (typed (key "temp") refl name kind (numbers_kept shape)) (λ p. temp p.0 kind p.1) (λ p. refl)
line_kept (rule name params body) = lift (join (a_name name) (join (parenthesized (any (mark ",") refl a_name params)) (fixed (mark ":=") refl (or_kept body)))) (λ p. rule p.0 p.1.0 p.1.1) (λ p. refl)
line_kept (insn i) = lift (insn_kept i) insn (λ x. refl)

pub lines_kept : (lines : List (Option Line)) → Kept lines_text (lines_text lines)
lines_kept [] = lift nothing (λ u. []) (λ u. refl)
lines_kept (None ∷ lines) = lift (fixed line_end refl (lines_kept lines)) (λ ls. None ∷ ls) (λ ls. refl)
lines_kept (Some line ∷ lines) = lift (join (line_kept line) (fixed line_end refl (lines_kept lines))) (λ p. Some p.0 ∷ p.1) (λ p. refl)
