-- The tokens of bytes, by lexemes.
use Rattle.std.proofs.Common.{◌≡◌, ◌<◌, ◌≤◌, ◌+◌, ◌-◌, ℕ, Bool, true, false, List, [], ◌∷◌, ◌++◌, length, take, drop, sym, ap, ◌∙◌, refl, append_assoc, length-append, arith, nat_lt}
use Rattle.std.proofs.lemmas.List.{append-nil, take_at, drop_at}
use Rattle.std.proofs.lemmas.Bool.Decides.{nat_tests}
use Rattle.text_reader.specs.declared.form.Form.TheVariants.{Kernel}
use Rattle.text_reader.specs.declared.token.Token as declared
use Rattle.text_reader.specs.declared.token.Class.{Class}
use Rattle.text_reader.specs.declared.token.Class.TheVariants.{Word, Number, Sign, LineEnd}
use Rattle.text_reader.specs.declared.lexeme.Piece.{Piece}
use Rattle.text_reader.specs.declared.lexeme.Piece.TheVariants.{Blank, Comment, Token}
use Rattle.text_reader.specs.declared.place.Place.{Place}
use Rattle.text_reader.specs.Lexemes.{Lexed, text_of, AreLexemes}
use Rattle.text_reader.specs.Tokens.{origin, behind, behind_all, token_of, tokens_of, last_end}
use Rattle.text_reader.specs.Progress.{IsReadTo}
use Rattle.text_reader.proofs.ReadSteps.{behind_at}
use Rattle.kernel_grammar.specs.Lexicals.{Lexical, line_end, lexical, lexicals}
use Rattle.kernel_syntax.specs.TokenTexts.{IsTextOf, lexical_of, lexicals_of}

lexicals_append : (bytes : List ℕ) (xs ys : List declared.Token) → lexicals bytes (xs ++ ys) ≡ lexicals bytes xs ++ lexicals bytes ys
lexicals_append bytes [] ys = refl
lexicals_append bytes (x ∷ xs) ys = ap (λ (z : List Lexical). lexicals bytes (x ∷ []) ++ z) (lexicals_append bytes xs ys)

-- the bytes from a place on, so many of them
pub part_is : (front text more bytes : List ℕ) (at : ℕ) → front ++ (text ++ more) ≡ bytes → at ≡ length front → take ((at + length text) - at) (drop at bytes) ≡ text
part_is front text more bytes at e f =
    let rest : drop at bytes ≡ text ++ more = ap (drop at) (sym e) ∙ drop_at front (text ++ more) at (sym f) in
    let count : (at + length text) - at ≡ length text = omega arith in
    rw (rest, count) (take_at text more (length text) refl)

one_lexical : (bytes front text more : List ℕ) (p : Place) (piece : Piece) → front ++ (text ++ more) ≡ bytes → p.at ≡ length front → lexicals bytes (token_of p piece (length text)) ≡ lexical_of piece text
one_lexical bytes front text more p Blank e f = refl
one_lexical bytes front text more p Comment e f = refl
one_lexical bytes front text more p (Token class) e f = ap (λ (z : List ℕ). lexical class z ∷ []) (part_is front text more bytes p.at e f)

all_lexicals : (bytes front rest : List ℕ) (p : Place) (xs : List Lexed) → front ++ (text_of xs ++ rest) ≡ bytes → p.at ≡ length front → lexicals bytes (tokens_of p xs) ≡ lexicals_of xs
all_lexicals bytes front rest p [] e f = refl
all_lexicals bytes front rest p (x ∷ xs) e f =
    let next = behind p x.piece (length x.text) in
    let whole : front ++ (x.text ++ (text_of xs ++ rest)) ≡ bytes = ap (λ (z : List ℕ). front ++ z) (sym (append_assoc x.text (text_of xs) rest)) ∙ e in
    let split : (front ++ x.text) ++ (text_of xs ++ rest) ≡ bytes = append_assoc front x.text (text_of xs ++ rest) ∙ whole in
    let at : next.at ≡ length (front ++ x.text) = omega (arith, behind_at p x.piece (length x.text), length-append front x.text) in
    lexicals_append bytes (token_of p x.piece (length x.text)) (tokens_of next xs)
    ∙ ap (λ (z : List Lexical). z ++ lexicals bytes (tokens_of next xs)) (one_lexical bytes front x.text (text_of xs ++ rest) p x.piece whole f)
    ∙ ap (λ (z : List Lexical). lexical_of x.piece x.text ++ z) (all_lexicals bytes (front ++ x.text) rest next xs split at)

-- the line goes on behind a token of the class
abbrev pub keeps_line : Class → Bool
keeps_line Word = true
keeps_line Number = true
keeps_line Sign = true
keeps_line LineEnd = false

-- the line goes on behind the piece
abbrev pub is_open : Piece → Bool
is_open Blank = true
is_open Comment = true
is_open (Token class) = keeps_line class

-- whether something stands on the line behind lexemes
abbrev pub open_after : Bool → List Lexed → Bool
open_after begun [] = begun
open_after begun (x ∷ xs) = open_after (is_open x.piece) xs

-- the end of a last line without a line feed
abbrev pub end_of : Bool → List Lexical
end_of true = line_end ∷ []
end_of false = []

-- the tokens of a text of lexemes
abbrev pub text_tokens : List Lexed → List Lexical
text_tokens xs = lexicals_of xs ++ end_of (open_after false xs)

-- the place behind a lexeme of so many bytes
record IsPlaced (p : Place) (started : Bool) : Type 0 where
  before : p.start ≤ p.at
  test : nat_lt p.start p.at ≡ started

same_line : (p : Place) (n : ℕ) → p.start ≤ p.at → 0 < n → IsPlaced (record { line = p.line; start = p.start; at = p.at + n }) true
same_line p n h k = record { before = omega arith; test = grind (arith, nat_tests) }

one_placed : (p : Place) (piece : Piece) (n : ℕ) → p.start ≤ p.at → 0 < n → IsPlaced (behind p piece n) (is_open piece)
one_placed p Blank n h k = same_line p n h k
one_placed p Comment n h k = same_line p n h k
one_placed p (Token Word) n h k = same_line p n h k
one_placed p (Token Number) n h k = same_line p n h k
one_placed p (Token Sign) n h k = same_line p n h k
one_placed p (Token LineEnd) n h k = record { before = omega arith; test = grind (arith, nat_tests) }

all_placed : (p : Place) (begun : Bool) (xs : List Lexed) (rest : List ℕ) → IsPlaced p begun → AreLexemes Kernel xs rest → IsPlaced (behind_all p xs) (open_after begun xs)
all_placed p begun [] rest h k = h
all_placed p begun (x ∷ xs) rest h k = all_placed (behind p x.piece (length x.text)) (is_open x.piece) xs rest (one_placed p x.piece (length x.text) h.before k.0.some) k.1

end_is : (bytes : List ℕ) (p : Place) (started : Bool) → nat_lt p.start p.at ≡ started → lexicals bytes (last_end p) ≡ end_of started
end_is bytes p true e = rw e refl
end_is bytes p false e = rw e refl

listed_is : (bytes : List ℕ) (xs : List Lexed) → text_of xs ≡ bytes → AreLexemes Kernel xs [] → lexicals bytes (tokens_of origin xs ++ last_end (behind_all origin xs)) ≡ text_tokens xs
listed_is bytes xs e h =
    let p = behind_all origin xs in
    lexicals_append bytes (tokens_of origin xs) (last_end p)
    ∙ ap (λ (z : List Lexical). z ++ lexicals bytes (last_end p)) (all_lexicals bytes [] [] origin xs (append-nil (text_of xs) ∙ e) refl)
    ∙ ap (λ (z : List Lexical). lexicals_of xs ++ z) (end_is bytes p (open_after false xs) (all_placed origin false xs [] (record { before = omega arith; test = refl }) h).test)

-- The bytes are lexemes with these tokens.
pub record IsLexed (bytes : List ℕ) (text : List Lexical) : Type 0 where
  pub lexemes : List Lexed
  pub whole : text_of lexemes ≡ bytes
  pub are : AreLexemes Kernel lexemes []
  pub listed : text ≡ text_tokens lexemes

pub text_out : (bytes : List ℕ) (text : List Lexical) → IsTextOf bytes text → IsLexed bytes text
text_out bytes text h = record {
  lexemes = h.are.lexemes;
  whole = h.are.text;
  are = h.are.are;
  listed = sym h.spelled ∙ ap (lexicals bytes) h.are.listed ∙ listed_is bytes h.are.lexemes h.are.text h.are.are;
}

pub text_in : (bytes : List ℕ) (text : List Lexical) → IsLexed bytes text → IsTextOf bytes text
text_in bytes text h = record {
  tokens = tokens_of origin h.lexemes ++ last_end (behind_all origin h.lexemes);
  are = record { lexemes = h.lexemes; text = h.whole; are = h.are; listed = refl };
  spelled = listed_is bytes h.lexemes h.whole h.are ∙ sym h.listed;
}

-- the tokens of lexemes before a rest
pub front_lexicals : (bytes rest : List ℕ) (place : Place) (tokens : List declared.Token) (h : IsReadTo Kernel bytes rest place tokens) → lexicals bytes tokens ≡ lexicals_of h.lexemes
front_lexicals bytes rest place tokens h = ap (lexicals bytes) h.listed ∙ all_lexicals bytes [] rest origin h.lexemes h.text refl
