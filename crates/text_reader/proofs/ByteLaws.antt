-- What a byte begins, and what can stand behind it.
use Rattle.std.proofs.Common.{◌≡◌, ℕ, Bool, true, false, not, ◌&&◌, ◌||◌, ◌==◌, List, [], ◌∷◌, sym, ap, ◌∙◌, refl, nat_lt, if◌then◌else◌}
use Rattle.std.proofs.lemmas.Bool.{false≢true, or_left, or_parts}
use Rattle.text_reader.specs.declared.form.Form.{Form}
use Rattle.text_reader.specs.declared.form.Form.TheVariants.{Kernel, Fortran, Words}
use Rattle.text_reader.specs.declared.token.Class.TheVariants.{Word, Number, Sign, LineEnd}
use Rattle.text_reader.specs.declared.lexeme.Piece.{Piece}
use Rattle.text_reader.specs.declared.lexeme.Piece.TheVariants.{Blank, Comment, Token}
use Rattle.text_reader.specs.Bytes.{is_feed, is_blank, is_words, begins_word, comment_mark, goes_on, kind_at}
use Rattle.std.specs.Char.{is_ascii_digit}
use Rattle.text_reader.specs.Progress.{Continues}

pub kind_same : (form : Form) (c : ℕ) (f g : Bool) → (c == 13) ≡ false → kind_at form c f ≡ kind_at form c g
kind_same form c f g e = rw e refl

goes_same : (form : Form) (piece : Piece) (c : ℕ) (f g : Bool) → (c == 13) ≡ false → goes_on form piece c f ≡ goes_on form piece c g
goes_same form Comment c f g e = refl
goes_same Words (Token Word) c f g e = rw e refl
goes_same Kernel (Token Word) c f g e = refl
goes_same Fortran (Token Word) c f g e = refl
goes_same form (Token Number) c f g e = refl
goes_same form (Token Sign) c f g e = refl
goes_same form (Token LineEnd) c f g e = refl
goes_same form Blank c f g e = refl

-- outside scripts no byte's part in a run depends on the next one
pub goes_plain : (form : Form) (piece : Piece) (c : ℕ) (f g : Bool) → is_words form ≡ false → goes_on form piece c f ≡ goes_on form piece c g
goes_plain form Comment c f g e = refl
goes_plain Words (Token Word) c f g e = absurd (false≢true (sym e))
goes_plain Kernel (Token Word) c f g e = refl
goes_plain Fortran (Token Word) c f g e = refl
goes_plain form (Token Number) c f g e = refl
goes_plain form (Token Sign) c f g e = refl
goes_plain form (Token LineEnd) c f g e = refl
goes_plain form Blank c f g e = refl

-- behind a byte that is no carriage return anything may follow
pub follow_same : (form : Form) (c : ℕ) (r s : List ℕ) → (c == 13) ≡ false → Continues form (c ∷ r) (c ∷ s)
follow_same form c r s e = record {
  feed = refl;
  ended = λ piece k. ap not (goes_same form piece c (is_feed s) (is_feed r) e) ∙ k;
  alone = λ d k. k;
}

pub follow_plain : (form : Form) (c : ℕ) (r s : List ℕ) → is_words form ≡ false → Continues form (c ∷ r) (c ∷ s)
follow_plain form c r s e = record {
  feed = refl;
  ended = λ piece k. ap not (goes_plain form piece c (is_feed s) (is_feed r) e) ∙ k;
  alone = λ d k. k;
}

-- before a byte that is no line feed the text may end
pub follow_none : (form : Form) (c : ℕ) (r : List ℕ) → (c == 10) ≡ false → Continues form (c ∷ r) []
follow_none form c r e = record {
  feed = e;
  ended = λ piece k. refl;
  alone = λ d k. refl;
}

-- a piece by its tests
abbrev pub piece_by : Bool → Bool → Bool → Bool → Bool → Piece
piece_by blank feed mark word digit =
    if blank then Blank
    else if feed then Token LineEnd
    else if mark then Comment
    else if word then Token Word
    else if digit then Token Number
    else Token Sign

pub record IsByNone (blank feed mark word digit : Bool) : Type 0 where
  pub blank_is : blank ≡ false
  pub feed_is : feed ≡ false
  pub mark_is : mark ≡ false
  pub word_is : word ≡ false
  pub digit_is : digit ≡ false

pub sign_by : (blank feed mark word digit : Bool) → piece_by blank feed mark word digit ≡ Token Sign → IsByNone blank feed mark word digit
sign_by false false false false false h = record { blank_is = refl; feed_is = refl; mark_is = refl; word_is = refl; digit_is = refl }
sign_by true feed mark word digit h = absurd (cc)
sign_by false true mark word digit h = absurd (cc)
sign_by false false true word digit h = absurd (cc)
sign_by false false false true digit h = absurd (cc)
sign_by false false false false true h = absurd (cc)

pub record IsByWord (blank feed mark word : Bool) : Type 0 where
  pub blank_is : blank ≡ false
  pub feed_is : feed ≡ false
  pub mark_is : mark ≡ false
  pub word_is : word ≡ true

pub word_by : (blank feed mark word digit : Bool) → piece_by blank feed mark word digit ≡ Token Word → IsByWord blank feed mark word
word_by false false false true digit h = record { blank_is = refl; feed_is = refl; mark_is = refl; word_is = refl }
word_by true feed mark word digit h = absurd (cc)
word_by false true mark word digit h = absurd (cc)
word_by false false true word digit h = absurd (cc)
word_by false false false false true h = absurd (cc)
word_by false false false false false h = absurd (cc)

feed_by : (blank feed mark word digit : Bool) → piece_by blank feed mark word digit ≡ Token LineEnd → feed ≡ true
feed_by false true mark word digit h = refl
feed_by true feed mark word digit h = absurd (cc)
feed_by false false true word digit h = absurd (cc)
feed_by false false false true digit h = absurd (cc)
feed_by false false false false true h = absurd (cc)
feed_by false false false false false h = absurd (cc)

pub feed_tests : (form : Form) (c : ℕ) (f : Bool) → kind_at form c f ≡ Token LineEnd → (c == 10) ≡ true
feed_tests form c f h = feed_by (is_blank c f) (c == 10) (c == comment_mark form) (is_words form || begins_word c) (is_ascii_digit c) h

pub sign_tests : (form : Form) (c : ℕ) (f : Bool) → kind_at form c f ≡ Token Sign → IsByNone (is_blank c f) (c == 10) (c == comment_mark form) (is_words form || begins_word c) (is_ascii_digit c)
sign_tests form c f h = sign_by (is_blank c f) (c == 10) (c == comment_mark form) (is_words form || begins_word c) (is_ascii_digit c) h

pub word_tests : (form : Form) (c : ℕ) (f : Bool) → kind_at form c f ≡ Token Word → IsByWord (is_blank c f) (c == 10) (c == comment_mark form) (is_words form || begins_word c)
word_tests form c f h = word_by (is_blank c f) (c == 10) (c == comment_mark form) (is_words form || begins_word c) (is_ascii_digit c) h

-- signs are no part of scripts
pub sign_form : (form : Form) (c : ℕ) (f : Bool) → kind_at form c f ≡ Token Sign → is_words form ≡ false
sign_form form c f h = (or_parts (is_words form) (begins_word c) (sign_tests form c f h).word_is).0

script_tests : (low blank feed mark : Bool) → blank ≡ false → feed ≡ false → mark ≡ false → (low && not (blank || (feed || mark))) ≡ false → low ≡ false
script_tests false blank feed mark b f m h = refl
script_tests true false false false b f m h = h
script_tests true true feed mark b f m h = absurd (false≢true (sym b))
script_tests true false true mark b f m h = absurd (false≢true (sym f))
script_tests true false false true b f m h = absurd (false≢true (sym m))

-- Where a word's first byte is none of its bytes, the word would be a script's, and the byte is outside ASCII.
pub outside : (form : Form) (c : ℕ) (f : Bool) → kind_at form c f ≡ Token Word → goes_on form (Token Word) c f ≡ false → (form ≡ Words) × (nat_lt c 128 ≡ false)
outside Words c f h k =
    let t = word_tests Words c f h in
    (refl, script_tests (nat_lt c 128) (is_blank c f) (c == 10) (c == 35) t.blank_is t.feed_is t.mark_is k)
outside Kernel c f h k = absurd (false≢true (sym k ∙ or_left (begins_word c) (is_ascii_digit c) (word_tests Kernel c f h).word_is))
outside Fortran c f h k = absurd (false≢true (sym k ∙ or_left (begins_word c) (is_ascii_digit c) (word_tests Fortran c f h).word_is))
