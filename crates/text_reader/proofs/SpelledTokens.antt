-- The bytes of each token are what its class says.
use Rattle.std.proofs.Common.{◌≡◌, ◌<◌, ◌+◌, ◌-◌, ℕ, Bool, true, false, not, ◌&&◌, ◌||◌, ◌==◌, List, [], ◌∷◌, ◌++◌, length, take, drop, get_or, sym, ap, ◌∙◌, refl, subst, append_assoc, length-append, arith, Some, if◌then◌else◌, nat_lt, inl, inr}
use Rattle.std.specs.Char.{is_ascii_digit}
use Rattle.std.specs.List.{All, list_all}
use Rattle.std.proofs.lemmas.List.{append-nil, take_at, drop_at}
use Rattle.std.proofs.lemmas.List.Elements.{All-nil, All-append, All-cons}
use Rattle.std.proofs.lemmas.Bool.{false≢true, and_parts, and_from}
use Rattle.text_reader.specs.declared.form.Form.{Form}
use Rattle.text_reader.specs.declared.form.Form.TheVariants.{Kernel, Fortran, Words}
use Rattle.text_reader.specs.declared.token.Token as declared
use Rattle.text_reader.specs.declared.token.Class.{Class}
use Rattle.text_reader.specs.declared.token.Class.TheVariants.{Word, Number, Sign, LineEnd}
use Rattle.text_reader.specs.declared.lexeme.Piece.{Piece}
use Rattle.text_reader.specs.declared.lexeme.Piece.TheVariants.{Blank, Comment, Token}
use Rattle.text_reader.specs.declared.place.Place.{Place}
use Rattle.text_reader.specs.Bytes.{is_feed, is_words, begins_word, goes_on, kind_at}
use Rattle.text_reader.specs.Lexemes.{Lexed, is_run, kind_of, IsSign, IsLexeme, text_of, AreLexemes}
use Rattle.text_reader.specs.Tokens.{origin, behind, behind_all, token_of, tokens_of, last_end}
use Rattle.text_reader.specs.Spelling.{is_of_word, is_sign, IsSpelled, IsSpelledIn}
use Rattle.text_reader.specs.Progress.{IsReadTo}
use Rattle.text_reader.specs.Laws.{HasSpelledTokens}
use Rattle.text_reader.proofs.ByteLaws.{word_tests}
use Rattle.text_reader.proofs.LinePlaces.{line_end_is}
use Rattle.text_reader.proofs.ReadSteps.{behind_at}

script_alone : (low blank return feed more : Bool) → (low && not ((blank || (return && feed)) || more)) ≡ true → (low && not ((blank || (return && false)) || more)) ≡ true
script_alone low blank return false more h = h
script_alone low true return true more h = h
script_alone low false false true more h = h
script_alone false false true true more h = h
script_alone true false true true more h = absurd (false≢true h)

of_word : (form : Form) (c : ℕ) (f : Bool) → goes_on form (Token Word) c f ≡ true → is_of_word form c ≡ true
of_word Kernel c f h = h
of_word Fortran c f h = h
of_word Words c f h = script_alone (nat_lt c 128) ((c == 32) || (c == 9)) (c == 13) f ((c == 10) || (c == 35)) h

word_bytes : (form : Form) (text rest : List ℕ) → is_run form (Token Word) text rest ≡ true → list_all (is_of_word form) text ≡ true
word_bytes form [] rest h = refl
word_bytes form (c ∷ text) rest h =
    let parts = and_parts (goes_on form (Token Word) c (is_feed (text ++ rest))) (is_run form (Token Word) text rest) h in
    and_from (is_of_word form c) (list_all (is_of_word form) text) (of_word form c (is_feed (text ++ rest)) parts.0) (word_bytes form text rest parts.1)

digit_bytes : (form : Form) (text rest : List ℕ) → is_run form (Token Number) text rest ≡ true → list_all is_ascii_digit text ≡ true
digit_bytes form [] rest h = refl
digit_bytes form (c ∷ text) rest h =
    let parts = and_parts (is_ascii_digit c) (is_run form (Token Number) text rest) h in
    and_from (is_ascii_digit c) (list_all is_ascii_digit text) parts.0 (digit_bytes form text rest parts.1)

word_first : (form : Form) (text rest : List ℕ) → 0 < length text → kind_of form (text ++ rest) ≡ Some (Token Word) → (is_words form || begins_word (get_or text 0 0)) ≡ true
word_first form [] rest some kind = absurd (omega arith)
word_first form (c ∷ text) rest some kind = let here : kind_at form c (is_feed (text ++ rest)) ≡ Token Word = cc in (word_tests form c (is_feed (text ++ rest)) here).word_is

sign_text : (form : Form) (text rest : List ℕ) → IsSign form text rest → is_sign form text ≡ true
sign_text form [] rest h = absurd h
sign_text form (c ∷ []) rest h = h.0
sign_text form (c ∷ d ∷ []) rest h = h
sign_text form (c ∷ d ∷ e ∷ text) rest h = absurd h

lexeme_spelled : (form : Form) (class : Class) (text rest : List ℕ) → IsLexeme form (Token class) text rest → IsSpelled form class text
lexeme_spelled form Word text rest h = record { some = h.some; begins = word_first form text rest h.some h.kind; bytes = word_bytes form text rest h.whole.0; free = h.whole.1 }
lexeme_spelled form Number text rest h = record { some = h.some; bytes = digit_bytes form text rest h.whole }
lexeme_spelled form Sign text rest h = sign_text form text rest h.whole
lexeme_spelled form LineEnd text rest h = inr (line_end_is form text rest h)

-- the bytes from a place on, so many of them
part_is : (front text more bytes : List ℕ) (at : ℕ) → front ++ (text ++ more) ≡ bytes → at ≡ length front → take ((at + length text) - at) (drop at bytes) ≡ text
part_is front text more bytes at e f =
    let rest : drop at bytes ≡ text ++ more = ap (drop at) (sym e) ∙ drop_at front (text ++ more) at (sym f) in
    let count : (at + length text) - at ≡ length text = omega arith in
    rw (rest, count) (take_at text more (length text) refl)

abbrev SpellsAll : Form → List ℕ → List declared.Token → Type 0
SpellsAll form bytes tokens = All (IsSpelledIn form bytes) tokens

one_spelled : (form : Form) (bytes front text more : List ℕ) (p : Place) (piece : Piece) → front ++ (text ++ more) ≡ bytes → p.at ≡ length front → IsLexeme form piece text more → SpellsAll form bytes (token_of p piece (length text))
one_spelled form bytes front text more p Blank e f h = All-nil (IsSpelledIn form bytes)
one_spelled form bytes front text more p Comment e f h = All-nil (IsSpelledIn form bytes)
one_spelled form bytes front text more p (Token class) e f h =
    let token : declared.Token = record { line = p.line; from = p.at; to = p.at + length text; class = class } in
    All-cons (IsSpelledIn form bytes) token [] (subst (λ (z : List ℕ). IsSpelled form class z) (sym (part_is front text more bytes p.at e f)) (lexeme_spelled form class text more h)) (All-nil (IsSpelledIn form bytes))

all_spelled : (form : Form) (bytes front rest : List ℕ) (p : Place) (xs : List Lexed) → front ++ (text_of xs ++ rest) ≡ bytes → p.at ≡ length front → AreLexemes form xs rest → SpellsAll form bytes (tokens_of p xs)
all_spelled form bytes front rest p [] e f h = All-nil (IsSpelledIn form bytes)
all_spelled form bytes front rest p (x ∷ xs) e f h =
    let next = behind p x.piece (length x.text) in
    let more = text_of xs ++ rest in
    let whole : front ++ (x.text ++ more) ≡ bytes = ap (λ (z : List ℕ). front ++ z) (sym (append_assoc x.text (text_of xs) rest)) ∙ e in
    let split : (front ++ x.text) ++ more ≡ bytes = append_assoc front x.text more ∙ whole in
    let at : next.at ≡ length (front ++ x.text) = omega (arith, behind_at p x.piece (length x.text), length-append front x.text) in
    All-append (IsSpelledIn form bytes) (token_of p x.piece (length x.text)) (tokens_of next xs) (one_spelled form bytes front x.text more p x.piece whole f h.0) (all_spelled form bytes (front ++ x.text) rest next xs split at h.1)

end_spelled : (form : Form) (bytes : List ℕ) (p : Place) (b : Bool) → SpellsAll form bytes (if b then record { line = p.line; from = p.at; to = p.at; class = LineEnd } ∷ [] else [])
end_spelled form bytes p true =
    let none : p.at - p.at ≡ 0 = omega arith in
    let token : declared.Token = record { line = p.line; from = p.at; to = p.at; class = LineEnd } in
    All-cons (IsSpelledIn form bytes) token [] (inl (rw none refl)) (All-nil (IsSpelledIn form bytes))
end_spelled form bytes p false = All-nil (IsSpelledIn form bytes)

pub spelled_tokens : HasSpelledTokens
spelled_tokens form bytes tokens h =
    let p = behind_all origin h.lexemes in
    subst (λ (ts : List declared.Token). SpellsAll form bytes ts) (sym h.listed)
    (All-append (IsSpelledIn form bytes) (tokens_of origin h.lexemes) (last_end p) (all_spelled form bytes [] [] origin h.lexemes (append-nil (text_of h.lexemes) ∙ h.text) refl h.are) (end_spelled form bytes p (nat_lt p.start p.at)))

pub front_spelled : (form : Form) (bytes rest : List ℕ) (place : Place) (tokens : List declared.Token) → IsReadTo form bytes rest place tokens → SpellsAll form bytes tokens
front_spelled form bytes rest place tokens h = subst (λ (ts : List declared.Token). SpellsAll form bytes ts) (sym h.listed) (all_spelled form bytes [] rest origin h.lexemes h.text refl h.are)
