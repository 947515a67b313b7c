-- The place behind lexemes is the line and the bytes of their text.
use Rattle.std.proofs.Common.{◌≡◌, ◌≢◌, ◌<◌, ◌≤◌, ◌+◌, ◌-◌, ℕ, Bool, true, false, not, ◌&&◌, ◌||◌, ◌==◌, List, [], ◌∷◌, ◌++◌, length, sym, ap, ◌∙◌, refl, subst, append_assoc, length-append, arith, Some, cond}
use Rattle.std.proofs.lemmas.List.{append-nil}
use Rattle.std.proofs.lemmas.Bool.{false≢true, and_from, and_parts}
use Rattle.std.proofs.lemmas.Bool.Decides.{nat_tests}
use Rattle.std.specs.List.{list_all, list_any}
use Rattle.text_reader.specs.declared.form.Form.{Form}
use Rattle.text_reader.specs.declared.form.Form.TheVariants.{Kernel, Fortran, Words}
use Rattle.text_reader.specs.declared.token.Token as declared
use Rattle.text_reader.specs.declared.token.Class.TheVariants.{Word, Number, Sign, LineEnd}
use Rattle.text_reader.specs.declared.lexeme.Piece.{Piece}
use Rattle.text_reader.specs.declared.lexeme.Piece.TheVariants.{Blank, Comment, Token}
use Rattle.text_reader.specs.declared.place.Place.{Place}
use Rattle.text_reader.specs.Bytes.{is_feed, goes_on, kind_at}
use Rattle.text_reader.specs.Signs.{pairs, is_the_pair, is_pair}
use Rattle.text_reader.specs.Lexemes.{Lexed, is_run, kind_of, IsSign, IsLexeme, text_of, AreLexemes}
use Rattle.text_reader.specs.Tokens.{origin, behind, behind_all}
use Rattle.text_reader.specs.Faults.{feeds, is_lines, EndsIn}
use Rattle.text_reader.specs.Progress.{IsReadTo}
use Rattle.text_reader.proofs.ByteLaws.{feed_tests}

-- The place is behind the text.
pub record IsBehind (text : List ℕ) (place : Place) : Type 0 where
  pub lines : List ℕ
  pub part : List ℕ
  pub split : text ≡ lines ++ part
  pub whole : is_lines lines ≡ true
  pub within : list_all (λ c. not (c == 10)) part ≡ true
  pub line : place.line ≡ 1 + feeds lines
  pub start : place.start ≡ length lines
  pub at : place.at ≡ length text

feeds_append : (xs ys : List ℕ) → feeds (xs ++ ys) ≡ feeds xs + feeds ys
feeds_append [] ys = omega arith
feeds_append (x ∷ xs) ys = omega (arith, feeds_append xs ys)

no_feed : (x : ℕ) (xs : List ℕ) (b : Bool) → (x == 10) ≡ b → not b ≡ true → feeds xs ≡ 0 → feeds (x ∷ xs) ≡ 0
no_feed x xs true e h k = absurd (false≢true h)
no_feed x xs false e h k = rw e (omega arith)

feeds_none : (xs : List ℕ) → list_all (λ c. not (c == 10)) xs ≡ true → feeds xs ≡ 0
feeds_none [] h = refl
feeds_none (x ∷ xs) h =
    let parts = and_parts (not (x == 10)) (list_all (λ c. not (c == 10)) xs) h in
    no_feed x xs (x == 10) refl parts.0 (feeds_none xs parts.1)

few : (b : Bool) (n m : ℕ) → n ≤ m → cond b 1 0 + n ≤ 1 + m
few true n m h = omega arith
few false n m h = omega arith

feeds_few : (xs : List ℕ) → feeds xs ≤ length xs
feeds_few [] = omega arith
feeds_few (x ∷ xs) = omega (arith, few (x == 10) (feeds xs) (length xs) (feeds_few xs))

lines_end : (xs : List ℕ) → is_lines (xs ++ 10 ∷ []) ≡ true
lines_end [] = refl
lines_end (x ∷ []) = refl
lines_end (x ∷ y ∷ xs) = lines_end (y ∷ xs)

all_append : (xs ys : List ℕ) → list_all (λ c. not (c == 10)) xs ≡ true → list_all (λ c. not (c == 10)) ys ≡ true → list_all (λ c. not (c == 10)) (xs ++ ys) ≡ true
all_append [] ys h k = k
all_append (x ∷ xs) ys h k =
    let parts = and_parts (not (x == 10)) (list_all (λ c. not (c == 10)) xs) h in
    and_from (not (x == 10)) (list_all (λ c. not (c == 10)) (xs ++ ys)) parts.0 (all_append xs ys parts.1 k)

-- no lexeme but a line end holds a line feed

run_feed : (form : Form) (piece : Piece) (f : Bool) → goes_on form piece 10 f ≡ false
run_feed form Comment f = refl
run_feed Words (Token Word) f = refl
run_feed Kernel (Token Word) f = refl
run_feed Fortran (Token Word) f = refl
run_feed form (Token Number) f = refl
run_feed form (Token Sign) f = refl
run_feed form (Token LineEnd) f = refl
run_feed form Blank f = refl

kind_feed : (form : Form) (f : Bool) → kind_at form 10 f ≡ Token LineEnd
kind_feed form true = refl
kind_feed form false = refl

other_by : (P : ℕ → Type 0) (c : ℕ) (b : Bool) → (c == 10) ≡ b → P c → (P 10 → ⊥) → not b ≡ true
other_by P c false e h k = refl
other_by P c true e h k = let same : c ≡ 10 = grind (arith, nat_tests) in absurd (k (subst P same h))

-- what does not hold at the line feed holds of bytes that are none
other_byte : (P : ℕ → Type 0) (c : ℕ) → P c → (P 10 → ⊥) → not (c == 10) ≡ true
other_byte P c h k = other_by P c (c == 10) refl h k

pub run_within : (form : Form) (piece : Piece) (text rest : List ℕ) → is_run form piece text rest ≡ true → list_all (λ c. not (c == 10)) text ≡ true
run_within form piece [] rest h = refl
run_within form piece (c ∷ text) rest h =
    let parts = and_parts (goes_on form piece c (is_feed (text ++ rest))) (is_run form piece text rest) h in
    and_from (not (c == 10)) (list_all (λ d. not (d == 10)) text)
    (other_byte (λ d. goes_on form piece d (is_feed (text ++ rest)) ≡ true) c parts.0 (λ e. false≢true (sym (run_feed form piece (is_feed (text ++ rest))) ∙ e)))
    (run_within form piece text rest parts.1)

first_within : (form : Form) (piece : Piece) (c : ℕ) (f : Bool) → kind_at form c f ≡ piece → piece ≢ Token LineEnd → not (c == 10) ≡ true
first_within form piece c f h other = other_byte (λ d. kind_at form d f ≡ piece) c h (λ e. other (sym e ∙ kind_feed form f))

-- no sign of two bytes ends in a line feed
abbrev are_no_ends : List (List ℕ) → Bool
are_no_ends [] = true
are_no_ends ((a ∷ b ∷ []) ∷ ps) = not (10 == b) && are_no_ends ps
are_no_ends (_ ∷ ps) = are_no_ends ps

no_ends : (form : Form) → are_no_ends (pairs form) ≡ true
no_ends Kernel = refl
no_ends Fortran = refl
no_ends Words = refl

skip : (a b e : Bool) → not b ≡ true → ((a && b) || e) ≡ true → e ≡ true
skip a true e h k = absurd (false≢true h)
skip true false e h k = k
skip false false e h k = k

no_end : (c : ℕ) (ps : List (List ℕ)) → are_no_ends ps ≡ true → list_any (is_the_pair c 10) ps ≡ true → ⊥
no_end c [] h k = false≢true k
no_end c ([] ∷ ps) h k = no_end c ps h k
no_end c ((a ∷ []) ∷ ps) h k = no_end c ps h k
no_end c ((a ∷ b ∷ []) ∷ ps) h k =
    let parts = and_parts (not (10 == b)) (are_no_ends ps) h in
    no_end c ps parts.1 (skip (c == a) (10 == b) (list_any (is_the_pair c 10) ps) parts.0 k)
no_end c ((a ∷ b ∷ e ∷ more) ∷ ps) h k = no_end c ps h k

pair_within : (form : Form) (c d : ℕ) → is_pair form c d ≡ true → not (d == 10) ≡ true
pair_within form c d h = other_byte (λ e. is_pair form c e ≡ true) d h (λ e. no_end c (pairs form) (no_ends form) e)

one_within : (form : Form) (piece : Piece) (text rest : List ℕ) → length text ≡ 1 → kind_of form (text ++ rest) ≡ Some piece → piece ≢ Token LineEnd → list_all (λ c. not (c == 10)) text ≡ true
one_within form piece [] rest one kind other = refl
one_within form piece (c ∷ []) rest one kind other = let here : kind_at form c (is_feed rest) ≡ piece = cc in and_from (not (c == 10)) true (first_within form piece c (is_feed rest) here other) refl
one_within form piece (c ∷ d ∷ text) rest one kind other = absurd (omega arith)

sign_within : (form : Form) (text rest : List ℕ) → IsSign form text rest → kind_of form (text ++ rest) ≡ Some (Token Sign) → list_all (λ c. not (c == 10)) text ≡ true
sign_within form [] rest h kind = refl
sign_within form (c ∷ []) rest h kind = one_within form (Token Sign) (c ∷ []) rest refl kind (λ e. cc)
sign_within form (c ∷ d ∷ []) rest h kind =
    let here : kind_at form c (is_feed (d ∷ rest)) ≡ Token Sign = cc in
    and_from (not (c == 10)) (not (d == 10) && true) (first_within form (Token Sign) c (is_feed (d ∷ rest)) here (λ e. cc)) (and_from (not (d == 10)) true (pair_within form c d h) refl)
sign_within form (c ∷ d ∷ e ∷ text) rest h kind = absurd h

-- the same line goes on
same_line : (text more : List ℕ) (place : Place) → IsBehind text place → list_all (λ c. not (c == 10)) more ≡ true → IsBehind (text ++ more) (record { line = place.line; start = place.start; at = place.at + length more })
same_line text more place h k = record {
  lines = h.lines;
  part = h.part ++ more;
  split = ap (λ (z : List ℕ). z ++ more) h.split ∙ append_assoc h.lines h.part more;
  whole = h.whole;
  within = all_append h.part more h.within k;
  line = h.line;
  start = h.start;
  at = omega (arith, h.at, length-append text more);
}

next_line : (text : List ℕ) (place : Place) → IsBehind text place → IsBehind (text ++ 10 ∷ []) (record { line = place.line + 1; start = place.at + 1; at = place.at + 1 })
next_line text place h =
    let last : feeds (10 ∷ []) ≡ 1 = omega arith in
    let before : feeds text ≡ feeds h.lines = ap feeds h.split ∙ feeds_append h.lines h.part ∙ omega (arith, feeds_none h.part h.within) in
    record {
      lines = text ++ 10 ∷ [];
      part = [];
      split = sym (append-nil (text ++ 10 ∷ []));
      whole = lines_end text;
      within = refl;
      line = omega (arith, h.line, before, last, feeds_append text (10 ∷ []));
      start = omega (arith, h.at, length-append text (10 ∷ []));
      at = omega (arith, h.at, length-append text (10 ∷ []));
    }

pub line_end_is : (form : Form) (text rest : List ℕ) → IsLexeme form (Token LineEnd) text rest → text ≡ 10 ∷ []
line_end_is form [] rest h = let some : 0 < 0 = h.some in absurd (omega arith)
line_end_is form (c ∷ []) rest h =
    let kind = h.kind in
    let here : kind_at form c (is_feed rest) ≡ Token LineEnd = cc in
    let test = feed_tests form c (is_feed rest) here in
    let same : c ≡ 10 = grind (arith, nat_tests) in
    ap (λ (x : ℕ). x ∷ []) same
line_end_is form (c ∷ d ∷ text) rest h = let one : length (c ∷ d ∷ text) ≡ 1 = h.whole in absurd (omega arith)

behind_more : (form : Form) (piece : Piece) (text more rest : List ℕ) (place : Place) → IsBehind text place → IsLexeme form piece more rest → IsBehind (text ++ more) (behind place piece (length more))
behind_more form Blank text more rest place h k = same_line text more place h (one_within form Blank more rest k.whole k.kind (λ e. cc))
behind_more form Comment text more rest place h k = same_line text more place h (run_within form Comment more rest k.whole)
behind_more form (Token Word) text more rest place h k = same_line text more place h (run_within form (Token Word) more rest k.whole.0)
behind_more form (Token Number) text more rest place h k = same_line text more place h (run_within form (Token Number) more rest k.whole)
behind_more form (Token Sign) text more rest place h k = same_line text more place h (sign_within form more rest k.whole k.kind)
behind_more form (Token LineEnd) text more rest place h k =
    let is = line_end_is form more rest k in
    subst (λ (z : List ℕ). IsBehind (text ++ z) (behind place (Token LineEnd) (length z))) (sym is) (next_line text place h)

all_behind : (form : Form) (text : List ℕ) (place : Place) (xs : List Lexed) (rest : List ℕ) → IsBehind text place → AreLexemes form xs rest → IsBehind (text ++ text_of xs) (behind_all place xs)
all_behind form text place [] rest h k = subst (λ (z : List ℕ). IsBehind z place) (sym (append-nil text)) h
all_behind form text place (x ∷ xs) rest h k =
    let next = behind place x.piece (length x.text) in
    subst (λ (z : List ℕ). IsBehind z (behind_all next xs)) (append_assoc text x.text (text_of xs))
    (all_behind form (text ++ x.text) next xs rest (behind_more form x.piece text x.text (text_of xs ++ rest) place h k.0) k.1)

at_origin : IsBehind [] origin
at_origin = record { lines = []; part = []; split = refl; whole = refl; within = refl; line = omega arith; start = refl; at = refl }

pub read_behind : (form : Form) (bytes rest : List ℕ) (place : Place) (tokens : List declared.Token) (h : IsReadTo form bytes rest place tokens) → IsBehind (text_of h.lexemes) place
read_behind form bytes rest place tokens h = subst (λ (p : Place). IsBehind (text_of h.lexemes) p) (sym h.stands) (all_behind form [] origin h.lexemes rest at_origin h.are)

pub ends_in : (text front : List ℕ) (place : Place) → IsBehind text place → list_all (λ c. not (c == 10)) front ≡ true → EndsIn place.line (place.at - place.start + length front) (text ++ front)
ends_in text front place h k =
    let parts = ap length h.split in
    record {
      lines = h.lines;
      part = h.part ++ front;
      text = ap (λ (z : List ℕ). z ++ front) h.split ∙ append_assoc h.lines h.part front;
      whole = h.whole;
      within = all_append h.part front h.within k;
      numbered = h.line;
      counted = omega (arith, h.at, h.start, parts, length-append h.lines h.part, length-append h.part front);
    }

pub start_before : (text : List ℕ) (place : Place) → IsBehind text place → place.start ≤ place.at
start_before text place h = let parts = ap length h.split in omega (arith, h.at, h.start, parts, length-append h.lines h.part)

pub line_few : (text : List ℕ) (place : Place) → IsBehind text place → place.line ≤ 1 + place.at
line_few text place h = let parts = ap length h.split in omega (arith, h.at, h.line, parts, length-append h.lines h.part, feeds_few h.lines)
