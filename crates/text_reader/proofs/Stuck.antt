-- Where no lexeme stands at the front: how many bytes some lexemes begin with.
use Rattle.std.proofs.Common.{◌≡◌, ◌≢◌, ◌<◌, ℕ, Bool, true, false, not, ◌&&◌, ◌||◌, ◌==◌, List, [], ◌∷◌, ◌++◌, length, take, drop, sym, ap, ◌∙◌, refl, subst, arith, Some, nat_lt, inl, inr, ◌⊎◌}
use Rattle.std.proofs.lemmas.List.{take-append-drop}
use Rattle.std.proofs.lemmas.Bool.{false≢true, and_from, and_parts, not-true, or_cases, or_parts}
use Rattle.std.proofs.lemmas.Bool.Decides.{nat_tests}
use Rattle.std.specs.List.{list_any}
use Rattle.text_reader.specs.declared.form.Form.{Form}
use Rattle.text_reader.specs.declared.form.Form.TheVariants.{Kernel, Fortran, Words}
use Rattle.text_reader.specs.declared.token.Class.TheVariants.{Word, Sign, LineEnd}
use Rattle.text_reader.specs.declared.lexeme.Piece.{Piece}
use Rattle.text_reader.specs.declared.lexeme.Piece.TheVariants.{Blank, Token}
use Rattle.text_reader.specs.Bytes.{is_feed, is_blank, is_words, goes_on, kind_at}
use Rattle.text_reader.specs.Signs.{pairs, is_first, is_the_pair, is_single, begins_pair}
use Rattle.text_reader.specs.Lexemes.{ends, is_run, folded, is_kept, kind_of, lacks_pair, IsSign, IsWhole, IsLexeme}
use Rattle.text_reader.specs.Progress.{Continues, LacksLexeme, IsStuck}
use Rattle.text_reader.proofs.LinePlaces.{run_within}
use Rattle.text_reader.proofs.OneLexeme.{no_pair}
use Rattle.text_reader.proofs.ByteLaws.{kind_same, goes_plain, follow_same, follow_plain, follow_none, sign_tests, sign_form, outside}

-- a lexeme is of the one kind that can stand there
at_kind : (form : Form) (piece kind : Piece) (text rest bytes : List ℕ) → IsLexeme form piece text rest → text ++ rest ≡ bytes → kind_of form bytes ≡ Some kind → IsWhole form kind text rest
at_kind form piece kind text rest bytes h e k =
    let kinds : Some piece ≡ Some kind = sym h.kind ∙ ap (kind_of form) e ∙ k in
    let same : piece ≡ kind = cc in
    subst (λ (x : Piece). IsWhole form x text rest) same h.whole

-- the byte at the front begins no lexeme, whatever follows it
stuck_none : (form : Form) (c : ℕ) (cs : List ℕ) → (c == 10) ≡ false → (c == 13) ≡ false → ((other : List ℕ) → LacksLexeme form (c ∷ other)) → IsStuck form (c ∷ cs) 0
stuck_none form c cs feed return lacks = record {
  front = [];
  rest = c ∷ cs;
  text = refl;
  counted = refl;
  within = refl;
  none = lacks cs;
  lexemes = [];
  more = [];
  completed = refl;
  are = tt;
  follows = follow_none form c cs feed;
  longest = λ d ds other is.
      let first : c ≡ d = cc in
      subst (λ (x : ℕ). Continues form (c ∷ cs) (x ∷ other) × LacksLexeme form (x ∷ other)) first (follow_same form c cs other return, lacks other);
}

-- Words of scripts.

high : (c n : ℕ) → nat_lt c 128 ≡ false → n < 128 → (c == n) ≡ false
high c n h k = grind (arith, nat_tests)

lacks_script : (c : ℕ) (f : Bool) (other : List ℕ) → nat_lt c 128 ≡ false → kind_at Words c f ≡ Token Word → LacksLexeme Words (c ∷ other)
lacks_script c f other low kind piece [] rest e h = let some = h.some in absurd (omega arith)
lacks_script c f other low kind piece (d ∷ text) rest e h =
    let same = kind_same Words c (is_feed other) f (high c 13 low (omega arith)) ∙ kind in
    let whole = at_kind Words piece (Token Word) (d ∷ text) rest (c ∷ other) h e (ap (λ (x : Piece). Some x) same) in
    let here = (and_parts (goes_on Words (Token Word) d (is_feed (text ++ rest))) (is_run Words (Token Word) text rest) whole.0).0 in
    let first : d ≡ c = cc in
    let ascii = (and_parts (nat_lt d 128) (not (is_blank d (is_feed (text ++ rest)) || ((d == 10) || (d == 35)))) here).0 in
    false≢true (sym low ∙ ap (λ (x : ℕ). nat_lt x 128) (sym first) ∙ ascii)

stuck_script : (form : Form) (c : ℕ) (cs : List ℕ) → kind_at form c (is_feed cs) ≡ Token Word → (form ≡ Words) × (nat_lt c 128 ≡ false) → IsStuck form (c ∷ cs) 0
stuck_script Words c cs kind h = stuck_none Words c cs (high c 10 h.1 (omega arith)) (high c 13 h.1 (omega arith)) (λ other. lacks_script c (is_feed cs) other h.1 kind)
stuck_script Kernel c cs kind h = absurd (let e = h.0 in cc)
stuck_script Fortran c cs kind h = absurd (let e = h.0 in cc)

pub word_none : (form : Form) (bytes : List ℕ) (n : ℕ) → kind_of form bytes ≡ Some (Token Word) → is_run form (Token Word) (take n bytes) (drop n bytes) ≡ true → n ≡ 0 → IsStuck form bytes 0
word_none form [] n kind run e = absurd (cc)
word_none form (c ∷ cs) n kind run e =
    let here : kind_at form c (is_feed cs) ≡ Token Word = cc in
    let not_here : is_run form (Token Word) (take 0 (c ∷ cs)) (drop 0 (c ∷ cs)) ≡ true = rw e at run in
    let ended : goes_on form (Token Word) c (is_feed cs) ≡ false = not-true (goes_on form (Token Word) c (is_feed cs)) not_here in
    stuck_script form c cs here (outside form c (is_feed cs) here ended)

-- Words that are kept.

goes_still : (form : Form) (c : ℕ) (f : Bool) (cs : List ℕ) → is_words form ≡ false → goes_on form (Token Word) c f ≡ true → ends form (Token Word) (c ∷ cs) ≡ false
goes_still form c f cs w h = ap not (goes_plain form (Token Word) c (is_feed cs) f w ∙ h)

-- the first three bytes of a kept word, which all go on with it
record IsKeptFront (form : Form) (a b d : ℕ) : Type 0 where
  plain : is_words form ≡ false
  kind : kind_at form a (b == 10) ≡ Token Word
  kept : is_kept form (a ∷ b ∷ d ∷ []) ≡ true
  first : goes_on form (Token Word) a (b == 10) ≡ true
  second : goes_on form (Token Word) b (d == 10) ≡ true
  third : goes_on form (Token Word) d false ≡ true

no_kept : (form : Form) (a b d : ℕ) (text rest other : List ℕ) → IsKeptFront form a b d → 0 < length text → is_run form (Token Word) text rest ≡ true → is_kept form text ≡ false → text ++ rest ≡ a ∷ b ∷ d ∷ other → ⊥
no_kept form a b d [] rest other k some run kept e = omega arith
no_kept form a b d (x ∷ []) rest other k some run kept e =
    let more : rest ≡ b ∷ d ∷ other = cc in
    let ended = (and_parts (goes_on form (Token Word) x (is_feed rest)) (ends form (Token Word) rest) run).1 in
    false≢true (sym (goes_still form b (d == 10) (d ∷ other) k.plain k.second) ∙ ap (ends form (Token Word)) (sym more) ∙ ended)
no_kept form a b d (x ∷ y ∷ []) rest other k some run kept e =
    let more : rest ≡ d ∷ other = cc in
    let behind = (and_parts (goes_on form (Token Word) x (is_feed (y ∷ rest))) (is_run form (Token Word) (y ∷ []) rest) run).1 in
    let ended = (and_parts (goes_on form (Token Word) y (is_feed rest)) (ends form (Token Word) rest) behind).1 in
    false≢true (sym (goes_still form d false other k.plain k.third) ∙ ap (ends form (Token Word)) (sym more) ∙ ended)
no_kept form a b d (x ∷ y ∷ z ∷ text) rest other k some run kept e =
    let whole : x ∷ y ∷ z ∷ text ≡ a ∷ b ∷ d ∷ text = cc in
    false≢true (sym kept ∙ ap (is_kept form) whole ∙ k.kept)

lacks_kept : (form : Form) (a b d : ℕ) (other : List ℕ) → IsKeptFront form a b d → LacksLexeme form (a ∷ b ∷ d ∷ other)
lacks_kept form a b d other k piece text rest e h =
    let whole = at_kind form piece (Token Word) text rest (a ∷ b ∷ d ∷ other) h e (ap (λ (x : Piece). Some x) k.kind) in
    no_kept form a b d text rest other k h.some whole.0 whole.1 e

two_run : (form : Form) (a b d : ℕ) → IsKeptFront form a b d → is_run form (Token Word) (a ∷ b ∷ []) [] ≡ true
two_run form a b d k =
    and_from (goes_on form (Token Word) a (b == 10)) (goes_on form (Token Word) b false && true) k.first
    (and_from (goes_on form (Token Word) b false) true (goes_plain form (Token Word) b false (d == 10) k.plain ∙ k.second) refl)

stuck_kept : (form : Form) (a b d : ℕ) (cs : List ℕ) → IsKeptFront form a b d → IsStuck form (a ∷ b ∷ d ∷ cs) 2
stuck_kept form a b d cs k = record {
  front = a ∷ b ∷ [];
  rest = d ∷ cs;
  text = refl;
  counted = refl;
  within = run_within form (Token Word) (a ∷ b ∷ []) [] (two_run form a b d k);
  none = lacks_kept form a b d cs k;
  lexemes = record { piece = Token Word; text = a ∷ b ∷ [] } ∷ [];
  more = [];
  completed = refl;
  are = (record { some = omega arith; kind = ap (λ (x : Piece). Some x) k.kind; whole = (two_run form a b d k, refl) }, tt);
  follows = follow_plain form a (b ∷ d ∷ cs) (b ∷ []) k.plain;
  longest = λ x xs other is.
      let third : d ≡ x = cc in
      subst (λ (y : ℕ). Continues form (a ∷ b ∷ d ∷ cs) (a ∷ b ∷ y ∷ other) × LacksLexeme form (a ∷ b ∷ y ∷ other)) third (follow_plain form a (b ∷ d ∷ cs) (b ∷ d ∷ other) k.plain, lacks_kept form a b d other k);
}

kept_front : (form : Form) (bytes front rest : List ℕ) → front ++ rest ≡ bytes → kind_of form bytes ≡ Some (Token Word) → is_run form (Token Word) front rest ≡ true → is_kept form front ≡ true → IsStuck form bytes 2
kept_front form bytes [] rest e kind run kept = absurd (false≢true kept)
kept_front form bytes (a ∷ []) rest e kind run kept = absurd (false≢true kept)
kept_front form bytes (a ∷ b ∷ []) rest e kind run kept = absurd (false≢true kept)
kept_front form bytes (a ∷ b ∷ d ∷ text) rest e kind run kept =
    let plain = not-true (is_words form) (and_parts (not (is_words form)) ((folded form a == 108) && ((folded form b == 112) && (d == 95))) kept).0 in
    let first = and_parts (goes_on form (Token Word) a (b == 10)) (is_run form (Token Word) (b ∷ d ∷ text) rest) run in
    let second = and_parts (goes_on form (Token Word) b (d == 10)) (is_run form (Token Word) (d ∷ text) rest) first.1 in
    let third = and_parts (goes_on form (Token Word) d (is_feed (text ++ rest))) (is_run form (Token Word) text rest) second.1 in
    let kinds : Some (kind_at form a (b == 10)) ≡ Some (Token Word) = ap (kind_of form) e ∙ kind in
    let here : kind_at form a (b == 10) ≡ Token Word = cc in
    subst (λ (x : List ℕ). IsStuck form x 2) e
    (stuck_kept form a b d (text ++ rest) (record {
      plain = plain;
      kind = here;
      kept = kept;
      first = first.0;
      second = second.0;
      third = goes_plain form (Token Word) d false (is_feed (text ++ rest)) plain ∙ third.0;
    }))

pub word_kept : (form : Form) (bytes : List ℕ) (n : ℕ) → kind_of form bytes ≡ Some (Token Word) → is_run form (Token Word) (take n bytes) (drop n bytes) ≡ true → is_kept form (take n bytes) ≡ true → IsStuck form bytes 2
word_kept form bytes n kind run kept = kept_front form bytes (take n bytes) (drop n bytes) (take-append-drop n bytes) kind run kept

-- Signs.

no_sign : (form : Form) (c : ℕ) (cs text rest : List ℕ) → is_single form c ≡ false → lacks_pair form c cs ≡ true → text ++ rest ≡ c ∷ cs → IsSign form text rest → ⊥
no_sign form c cs [] rest single lacks e h = h
no_sign form c cs (d ∷ []) rest single lacks e h = let first : d ≡ c = cc in false≢true (sym single ∙ ap (is_single form) (sym first) ∙ h.0)
no_sign form c cs (d ∷ f ∷ []) rest single lacks e h = no_pair form c cs d f rest lacks h (sym e)
no_sign form c cs (d ∷ f ∷ g ∷ text) rest single lacks e h = h

lacks_sign : (form : Form) (c : ℕ) (cs : List ℕ) → kind_at form c (is_feed cs) ≡ Token Sign → is_single form c ≡ false → lacks_pair form c cs ≡ true → LacksLexeme form (c ∷ cs)
lacks_sign form c cs kind single lacks piece text rest e h =
    no_sign form c cs text rest single lacks e (at_kind form piece (Token Sign) text rest (c ∷ cs) h e (ap (λ (x : Piece). Some x) kind))

no_first : (c d : ℕ) (ps : List (List ℕ)) → list_any (is_first c) ps ≡ false → list_any (is_the_pair c d) ps ≡ false
no_first c d [] h = refl
no_first c d ([] ∷ ps) h = no_first c d ps h
no_first c d ((a ∷ []) ∷ ps) h = no_first c d ps (or_parts (c == a) (list_any (is_first c) ps) h).1
no_first c d ((a ∷ b ∷ []) ∷ ps) h = let parts = or_parts (c == a) (list_any (is_first c) ps) h in rw parts.0 (no_first c d ps parts.1)
no_first c d ((a ∷ b ∷ e ∷ more) ∷ ps) h = no_first c d ps (or_parts (c == a) (list_any (is_first c) ps) h).1

lacks_any : (form : Form) (c : ℕ) (cs : List ℕ) → begins_pair form c ≡ false → lacks_pair form c cs ≡ true
lacks_any form c [] h = refl
lacks_any form c (d ∷ cs) h = ap not (no_first c d (pairs form) h)

pub sign_none : (form : Form) (c : ℕ) (cs : List ℕ) → kind_at form c (is_feed cs) ≡ Token Sign → is_single form c ≡ false → begins_pair form c ≡ false → c ≢ 13 → IsStuck form (c ∷ cs) 0
sign_none form c cs kind single pair return =
    let plain : (c == 13) ≡ false = grind (arith, nat_tests) in
    stuck_none form c cs (sign_tests form c (is_feed cs) kind).feed_is plain
    (λ other. lacks_sign form c other (kind_same form c (is_feed other) (is_feed cs) plain ∙ kind) single (lacks_any form c other pair))

-- each sign of two bytes has two
abbrev are_two : List (List ℕ) → Bool
are_two [] = true
are_two ([] ∷ ps) = false
are_two ((a ∷ []) ∷ ps) = false
are_two ((a ∷ b ∷ []) ∷ ps) = are_two ps
are_two ((a ∷ b ∷ e ∷ more) ∷ ps) = false

all_two : (form : Form) → are_two (pairs form) ≡ true
all_two Kernel = refl
all_two Fortran = refl
all_two Words = refl

same_byte : (c : ℕ) → (c == c) ≡ true
same_byte c = grind (arith, nat_tests)

head_pair : (c a b : ℕ) (ps : List (List ℕ)) (first : Bool) → (c == a) ≡ first → ((d : ℕ) × (list_any (is_the_pair c d) ps ≡ true)) ⊎ (first ≡ true) → (d : ℕ) × (list_any (is_the_pair c d) ((a ∷ b ∷ []) ∷ ps) ≡ true)
head_pair c a b ps true e found = (b, rw (e, same_byte b) refl)
head_pair c a b ps false e (inl found) = (found.0, rw e found.1)
head_pair c a b ps false e (inr h) = absurd (false≢true h)

second_of : (c : ℕ) (ps : List (List ℕ)) → are_two ps ≡ true → list_any (is_first c) ps ≡ true → (d : ℕ) × (list_any (is_the_pair c d) ps ≡ true)
second_of c [] two h = absurd (false≢true h)
second_of c ([] ∷ ps) two h = absurd (false≢true two)
second_of c ((a ∷ []) ∷ ps) two h = absurd (false≢true two)
second_of c ((a ∷ b ∷ []) ∷ ps) two h =
    elim (or_cases (c == a) (list_any (is_first c) ps) h) [
      | inl here ↦ head_pair c a b ps (c == a) refl (inr here)
      | inr below ↦ head_pair c a b ps (c == a) refl (inl (second_of c ps two below))
    ]
second_of c ((a ∷ b ∷ e ∷ more) ∷ ps) two h = absurd (false≢true two)

no_return_pair : (form : Form) → begins_pair form 13 ≡ false
no_return_pair Kernel = refl
no_return_pair Fortran = refl
no_return_pair Words = refl

no_return : (form : Form) (c : ℕ) (b : Bool) → (c == 13) ≡ b → begins_pair form c ≡ true → b ≡ false
no_return form c false e h = refl
no_return form c true e h =
    let same : c ≡ 13 = grind (arith, nat_tests) in
    absurd (false≢true (sym (no_return_pair form) ∙ ap (begins_pair form) (sym same) ∙ h))

-- a text whose first byte begins no sign alone, and another text with the same two first bytes
longer_lacks : (form : Form) (c : ℕ) (cs : List ℕ) → kind_at form c (is_feed cs) ≡ Token Sign → is_single form c ≡ false → lacks_pair form c cs ≡ true → (d : ℕ) (ds other : List ℕ) → cs ≡ d ∷ ds → Continues form (c ∷ cs) (c ∷ d ∷ other) × LacksLexeme form (c ∷ d ∷ other)
longer_lacks form c cs kind single lacks d ds other is = (
  follow_plain form c cs (d ∷ other) (sign_form form c (is_feed cs) kind),
  lacks_sign form c (d ∷ other) (ap (λ (x : List ℕ). kind_at form c (is_feed x)) (sym is) ∙ kind) single (ap (lacks_pair form c) (sym is) ∙ lacks),
)

sign_begun : (form : Form) (c : ℕ) (cs : List ℕ) → kind_at form c (is_feed cs) ≡ Token Sign → is_single form c ≡ false → lacks_pair form c cs ≡ true → begins_pair form c ≡ true → IsStuck form (c ∷ cs) 1
sign_begun form c cs kind single lacks pair =
    let second = second_of c (pairs form) (all_two form) pair in
    let plain : (c == 13) ≡ false = no_return form c (c == 13) refl pair in
    record {
      front = c ∷ [];
      rest = cs;
      text = refl;
      counted = refl;
      within = rw ((sign_tests form c (is_feed cs) kind).feed_is) refl;
      none = lacks_sign form c cs kind single lacks;
      lexemes = record { piece = Token Sign; text = c ∷ second.0 ∷ [] } ∷ [];
      more = second.0 ∷ [];
      completed = refl;
      are = (record { some = omega arith; kind = ap (λ (x : Piece). Some x) (kind_same form c (is_feed (second.0 ∷ [])) (is_feed cs) plain ∙ kind); whole = second.1 }, tt);
      follows = follow_plain form c cs (second.0 ∷ []) (sign_form form c (is_feed cs) kind);
      longest = λ d ds other is. longer_lacks form c cs kind single lacks d ds other is;
    }

-- a carriage return that no line feed follows
return_begun : (form : Form) (cs : List ℕ) → kind_at form 13 (is_feed cs) ≡ Token Sign → is_single form 13 ≡ false → lacks_pair form 13 cs ≡ true → IsStuck form (13 ∷ cs) 1
return_begun form cs kind single lacks = record {
  front = 13 ∷ [];
  rest = cs;
  text = refl;
  counted = refl;
  within = refl;
  none = lacks_sign form 13 cs kind single lacks;
  lexemes = record { piece = Blank; text = 13 ∷ [] } ∷ record { piece = Token LineEnd; text = 10 ∷ [] } ∷ [];
  more = 10 ∷ [];
  completed = refl;
  are = (record { some = omega arith; kind = refl; whole = refl }, (record { some = omega arith; kind = refl; whole = refl }, tt));
  follows = follow_plain form 13 cs (10 ∷ []) (sign_form form 13 (is_feed cs) kind);
  longest = λ d ds other is. longer_lacks form 13 cs kind single lacks d ds other is;
}

pub sign_one : (form : Form) (c : ℕ) (cs : List ℕ) → kind_at form c (is_feed cs) ≡ Token Sign → is_single form c ≡ false → lacks_pair form c cs ≡ true → (begins_pair form c ≡ true) ⊎ (c ≡ 13) → IsStuck form (c ∷ cs) 1
sign_one form c cs kind single lacks (inl pair) = sign_begun form c cs kind single lacks pair
sign_one form c cs kind single lacks (inr return) =
    let P : ℕ → Type 0 = λ x. kind_at form x (is_feed cs) ≡ Token Sign → is_single form x ≡ false → lacks_pair form x cs ≡ true → IsStuck form (x ∷ cs) 1 in
    subst P (sym return) (λ k s l. return_begun form cs k s l) kind single lacks
