-- Well spelled tokens are lexemes.
use Rattle.std.proofs.Common.{◌≡◌, ◌<◌, ℕ, Bool, true, false, not, ◌&&◌, ◌==◌, List, [], ◌∷◌, ◌++◌, ap, ◌∙◌, refl, subst, arith, Some, inl, inr}
use Rattle.std.specs.Char.{is_ascii_digit}
use Rattle.std.specs.List.{list_any, list_all}
use Rattle.std.proofs.lemmas.Bool.{false≢true, and_from, and_parts, or_cases}
use Rattle.std.proofs.lemmas.Bool.Decides.{nat_tests}
use Rattle.text_reader.specs.declared.form.Form.TheVariants.{Kernel}
use Rattle.text_reader.specs.declared.token.Class.{Class}
use Rattle.text_reader.specs.declared.token.Class.TheVariants.{Word, Number, Sign, LineEnd}
use Rattle.text_reader.specs.declared.lexeme.Piece.{Piece}
use Rattle.text_reader.specs.declared.lexeme.Piece.TheVariants.{Blank, Comment, Token}
use Rattle.text_reader.specs.Bytes.{is_feed, is_blank, begins_word, is_word_byte, kind_at}
use Rattle.text_reader.specs.Signs.{pairs, singles, is_the_pair, is_pair, is_single}
use Rattle.text_reader.specs.Lexemes.{is_run, IsLexeme}
use Rattle.text_reader.specs.Spelling.{IsWord, IsDigits, is_sign, is_of_word}
use Rattle.kernel_grammar.specs.Lexicals.{Lexical, word, number, sign, line_end}
use Rattle.kernel_syntax.specs.TokenTexts.{IsWell, written, spaced}
use Rattle.kernel_syntax.proofs.Gaps.{blank_alone}

other_by : (P : ℕ → Type 0) (c n : ℕ) (b : Bool) → (c == n) ≡ b → P c → (P n → ⊥) → b ≡ false
other_by P c n false e h k = refl
other_by P c n true e h k = let same : c ≡ n = grind (arith, nat_tests) in absurd (k (subst P same h))

-- a byte is none for which something does not hold that holds of it
other_than : (P : ℕ → Type 0) (c n : ℕ) → P c → (P n → ⊥) → (c == n) ≡ false
other_than P c n h k = other_by P c n (c == n) refl h k

-- what a byte that is no blank, line feed and comment's mark begins
abbrev IsPlain : ℕ → Type 0
IsPlain c = (feed : Bool) → (is_blank c feed ≡ false) × ((c == 10) ≡ false) × ((c == 35) ≡ false)

plain : (P : ℕ → Type 0) (c : ℕ) → P c → (P 32 → ⊥) → (P 9 → ⊥) → (P 13 → ⊥) → (P 10 → ⊥) → (P 35 → ⊥) → IsPlain c
plain P c h space tab return line mark feed =
    let s = other_than P c 32 h space in
    let t = other_than P c 9 h tab in
    let r = other_than P c 13 h return in
    (rw (s, t, r) refl, other_than P c 10 h line, other_than P c 35 h mark)

pub begins_plain : (c : ℕ) → begins_word c ≡ true → IsPlain c
begins_plain c h = plain (λ d. begins_word d ≡ true) c h false≢true false≢true false≢true false≢true false≢true

pub digit_plain : (c : ℕ) → is_ascii_digit c ≡ true → IsPlain c
digit_plain c h = plain (λ d. is_ascii_digit d ≡ true) c h false≢true false≢true false≢true false≢true false≢true

digit_other : (c : ℕ) → is_ascii_digit c ≡ true → begins_word c ≡ false
digit_other c h = grind (arith, nat_tests)

pub word_kind : (c : ℕ) (feed : Bool) → begins_word c ≡ true → kind_at Kernel c feed ≡ Token Word
word_kind c feed h = let p = begins_plain c h feed in rw (p.0, p.1, p.2, h) refl

pub number_kind : (c : ℕ) (feed : Bool) → is_ascii_digit c ≡ true → kind_at Kernel c feed ≡ Token Number
number_kind c feed h = let p = digit_plain c h feed in rw (p.0, p.1, p.2, digit_other c h, h) refl

-- signs

abbrev is_the_sign : Piece → Bool
is_the_sign Blank = false
is_the_sign Comment = false
is_the_sign (Token Word) = false
is_the_sign (Token Number) = false
is_the_sign (Token Sign) = true
is_the_sign (Token LineEnd) = false

the_sign : (piece : Piece) → is_the_sign piece ≡ true → piece ≡ Token Sign
the_sign Blank h = absurd (false≢true h)
the_sign Comment h = absurd (false≢true h)
the_sign (Token Word) h = absurd (false≢true h)
the_sign (Token Number) h = absurd (false≢true h)
the_sign (Token Sign) h = refl
the_sign (Token LineEnd) h = absurd (false≢true h)

-- a sign stands at the byte, whatever follows
abbrev is_sign_byte : ℕ → Bool
is_sign_byte c = is_the_sign (kind_at Kernel c true) && is_the_sign (kind_at Kernel c false)

sign_at : (c : ℕ) (feed : Bool) → is_sign_byte c ≡ true → kind_at Kernel c feed ≡ Token Sign
sign_at c true h = the_sign (kind_at Kernel c true) (and_parts (is_the_sign (kind_at Kernel c true)) (is_the_sign (kind_at Kernel c false)) h).0
sign_at c false h = the_sign (kind_at Kernel c false) (and_parts (is_the_sign (kind_at Kernel c true)) (is_the_sign (kind_at Kernel c false)) h).1

same_test : (f : ℕ → Bool) (c n : ℕ) → (c == n) ≡ true → f n ≡ true → f c ≡ true
same_test f c n e h = let same : c ≡ n = grind (arith, nat_tests) in ap f same ∙ h

one_of : (f : ℕ → Bool) (c : ℕ) (xs : List ℕ) → list_all f xs ≡ true → list_any (λ s. c == s) xs ≡ true → f c ≡ true
one_of f c [] h k = absurd (false≢true k)
one_of f c (x ∷ xs) h k =
    let parts = and_parts (f x) (list_all f xs) h in
    elim (or_cases (c == x) (list_any (λ s. c == s) xs) k) [
      | inl here ↦ same_test f c x here parts.0
      | inr below ↦ one_of f c xs parts.1 below
    ]

abbrev first_is : (ℕ → Bool) → List ℕ → Bool
first_is f [] = false
first_is f (a ∷ []) = false
first_is f (a ∷ b ∷ []) = f a
first_is f (a ∷ b ∷ d ∷ more) = false

pair_of : (f : ℕ → Bool) (c d : ℕ) (ps : List (List ℕ)) → list_all (first_is f) ps ≡ true → list_any (is_the_pair c d) ps ≡ true → f c ≡ true
pair_of f c d [] h k = absurd (false≢true k)
pair_of f c d ([] ∷ ps) h k = absurd (false≢true h)
pair_of f c d ((a ∷ []) ∷ ps) h k = absurd (false≢true h)
pair_of f c d ((a ∷ b ∷ []) ∷ ps) h k =
    let parts = and_parts (f a) (list_all (first_is f) ps) h in
    elim (or_cases ((c == a) && (d == b)) (list_any (is_the_pair c d) ps) k) [
      | inl here ↦ same_test f c a (and_parts (c == a) (d == b) here).0 parts.0
      | inr below ↦ pair_of f c d ps parts.1 below
    ]
pair_of f c d ((a ∷ b ∷ e ∷ more) ∷ ps) h k = absurd (false≢true h)

pub single_kind : (c : ℕ) (feed : Bool) → is_single Kernel c ≡ true → kind_at Kernel c feed ≡ Token Sign
single_kind c feed h = sign_at c feed (one_of is_sign_byte c (singles Kernel) refl h)

pub pair_kind : (c d : ℕ) (feed : Bool) → is_pair Kernel c d ≡ true → kind_at Kernel c feed ≡ Token Sign
pair_kind c d feed h = sign_at c feed (pair_of is_sign_byte c d (pairs Kernel) refl h)

-- ---- tokens as lexemes

word_run : (text m : List ℕ) → list_all (is_of_word Kernel) text ≡ true → is_run Kernel (Token Word) text (32 ∷ m) ≡ true
word_run [] m h = refl
word_run (c ∷ text) m h =
    let parts = and_parts (is_word_byte c) (list_all (is_of_word Kernel) text) h in
    and_from (is_word_byte c) (is_run Kernel (Token Word) text (32 ∷ m)) parts.0 (word_run text m parts.1)

digit_run : (text m : List ℕ) → list_all is_ascii_digit text ≡ true → is_run Kernel (Token Number) text (32 ∷ m) ≡ true
digit_run [] m h = refl
digit_run (c ∷ text) m h =
    let parts = and_parts (is_ascii_digit c) (list_all is_ascii_digit text) h in
    and_from (is_ascii_digit c) (is_run Kernel (Token Number) text (32 ∷ m)) parts.0 (digit_run text m parts.1)

word_lexeme : (text m : List ℕ) → IsWord Kernel text → IsLexeme Kernel (Token Word) text (32 ∷ m)
word_lexeme [] m h = absurd (let some : 0 < 0 = h.some in omega arith)
word_lexeme (c ∷ text) m h = record {
  some = h.some;
  kind = ap (λ (p : Piece). Some p) (word_kind c (is_feed (text ++ 32 ∷ m)) h.begins);
  whole = (word_run (c ∷ text) m h.bytes, h.free);
}

digits_lexeme : (text m : List ℕ) → IsDigits text → IsLexeme Kernel (Token Number) text (32 ∷ m)
digits_lexeme [] m h = absurd (let some : 0 < 0 = h.some in omega arith)
digits_lexeme (c ∷ text) m h = record {
  some = h.some;
  kind = ap (λ (p : Piece). Some p) (number_kind c (is_feed (text ++ 32 ∷ m)) (and_parts (is_ascii_digit c) (list_all is_ascii_digit text) h.bytes).0);
  whole = digit_run (c ∷ text) m h.bytes;
}

sign_lexeme : (text m : List ℕ) → is_sign Kernel text ≡ true → IsLexeme Kernel (Token Sign) text (32 ∷ m)
sign_lexeme [] m h = absurd (false≢true h)
sign_lexeme (c ∷ []) m h = record { some = omega arith; kind = ap (λ (p : Piece). Some p) (single_kind c false h); whole = (h, ap not (blank_alone c)) }
sign_lexeme (c ∷ d ∷ []) m h = record { some = omega arith; kind = ap (λ (p : Piece). Some p) (pair_kind c d (d == 10) h); whole = h }
sign_lexeme (c ∷ d ∷ e ∷ text) m h = absurd (false≢true h)

pub line_lexeme : (m : List ℕ) → IsLexeme Kernel (Token LineEnd) (10 ∷ []) m
line_lexeme m = record { some = omega arith; kind = refl; whole = refl }

pub blank_lexeme : (m : List ℕ) → IsLexeme Kernel Blank (32 ∷ []) m
blank_lexeme m = record { some = omega arith; kind = refl; whole = refl }

-- the class of a token
abbrev pub class_of : Lexical → Class
class_of (word text) = Word
class_of (number digits) = Number
class_of (sign text) = Sign
class_of line_end = LineEnd

pub well_lexeme : (x : Lexical) (m : List ℕ) → IsWell x → IsLexeme Kernel (Token (class_of x)) (written x) (spaced x m)
well_lexeme (word text) m h = word_lexeme text m h
well_lexeme (number digits) m h = digits_lexeme digits m h
well_lexeme (sign text) m h = sign_lexeme text m h
well_lexeme line_end m h = line_lexeme m
