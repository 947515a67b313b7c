-- The tokens of a text behind those of its front.
use Rattle.std.proofs.Common.{◌≡◌, ◌<◌, ℕ, Bool, false, List, [], ◌∷◌, ◌++◌, length, sym, ap, ◌∙◌, refl, subst, append_assoc, arith}
use Rattle.std.proofs.lemmas.List.{append_cancel_right}
use Rattle.text_reader.specs.declared.form.Form.TheVariants.{Kernel}
use Rattle.text_reader.specs.declared.token.Token.{Token}
use Rattle.text_reader.specs.declared.place.Place.{Place}
use Rattle.text_reader.specs.Lexemes.{Lexed, IsLexeme, text_of, AreLexemes}
use Rattle.text_reader.specs.Progress.{IsReadTo}
use Rattle.text_reader.proofs.ByteLaws.{follow_plain}
use Rattle.text_reader.proofs.Followers.{follow_all}
use Rattle.text_reader.proofs.OneLexeme.{begin_so}
use Rattle.kernel_grammar.specs.Lexicals.{Lexical, lexicals}
use Rattle.kernel_syntax.specs.TokenTexts.{IsTextOf, lexical_of, lexicals_of, IsFrontOf, IsRest}
use Rattle.kernel_syntax.proofs.TokenTexts.{is_open, open_after, end_of, text_tokens, text_out, text_in, front_lexicals}

pub lexicals_joined : (xs ys : List Lexed) → lexicals_of (xs ++ ys) ≡ lexicals_of xs ++ lexicals_of ys
lexicals_joined [] ys = refl
lexicals_joined (x ∷ xs) ys = ap (λ (z : List Lexical). lexical_of x.piece x.text ++ z) (lexicals_joined xs ys) ∙ sym (append_assoc (lexical_of x.piece x.text) (lexicals_of xs) (lexicals_of ys))

pub text_joined : (xs ys : List Lexed) → text_of (xs ++ ys) ≡ text_of xs ++ text_of ys
text_joined [] ys = refl
text_joined (x ∷ xs) ys = ap (λ (z : List ℕ). x.text ++ z) (text_joined xs ys) ∙ sym (append_assoc x.text (text_of xs) (text_of ys))

-- lexemes behind others
pub are_more : (xs ys : List Lexed) (rest : List ℕ) → AreLexemes Kernel xs (text_of ys ++ rest) → AreLexemes Kernel ys rest → AreLexemes Kernel (xs ++ ys) rest
are_more [] ys rest h k = k
are_more (x ∷ xs) ys rest h k =
    let same : text_of xs ++ (text_of ys ++ rest) ≡ text_of (xs ++ ys) ++ rest = sym (append_assoc (text_of xs) (text_of ys) rest) ∙ ap (λ (z : List ℕ). z ++ rest) (sym (text_joined xs ys)) in
    (subst (λ (z : List ℕ). IsLexeme Kernel x.piece x.text z) same h.0, are_more xs ys rest h.1 k)

open_joined : (begun : Bool) (xs : List Lexed) (y : Lexed) (ys : List Lexed) → open_after begun (xs ++ y ∷ ys) ≡ open_after false (y ∷ ys)
open_joined begun [] y ys = refl
open_joined begun (x ∷ xs) y ys = open_joined (is_open x.piece) xs y ys

pub tokens_joined : (xs ys : List Lexed) → 0 < length (text_of ys) → text_tokens (xs ++ ys) ≡ lexicals_of xs ++ text_tokens ys
tokens_joined xs [] some = absurd (omega arith)
tokens_joined xs (y ∷ ys) some =
    ap (λ (z : List Lexical). z ++ end_of (open_after false (xs ++ y ∷ ys))) (lexicals_joined xs (y ∷ ys))
    ∙ ap (λ (b : Bool). (lexicals_of xs ++ lexicals_of (y ∷ ys)) ++ end_of b) (open_joined false xs y ys)
    ∙ append_assoc (lexicals_of xs) (lexicals_of (y ∷ ys)) (end_of (open_after false (y ∷ ys)))

-- a text that begins with lexemes
pub rest_text : (xs : List Lexed) (rest : List ℕ) (text : List Lexical) → 0 < length rest → AreLexemes Kernel xs rest → IsTextOf (text_of xs ++ rest) text → IsRest (lexicals_of xs) rest text
rest_text xs rest text some are h =
    let k = text_out (text_of xs ++ rest) text h in
    let begun = begin_so Kernel xs rest k.lexemes are k.are (sym k.whole) in
    let long : length (text_of begun.more) ≡ length rest = ap length begun.text in
    record {
      more = text_tokens begun.more;
      are = text_in rest (text_tokens begun.more) (record { lexemes = begun.more; whole = begun.text; are = begun.are; listed = refl });
      split = k.listed ∙ ap text_tokens begun.split ∙ tokens_joined xs begun.more (omega (arith, long, some));
    }

-- Whole lexemes before a byte stay the lexemes, whatever follows that byte.
pub same_front : (front : List ℕ) (c : ℕ) (r m : List ℕ) (text other : List Lexical) → IsFrontOf front (c ∷ r) text → IsTextOf (front ++ c ∷ m) other → IsRest text (c ∷ m) other
same_front front c r m text other h k =
    subst (λ (z : List Lexical). IsRest z (c ∷ m) other) (sym h.listed)
    (rest_text h.lexemes (c ∷ m) other (omega arith) (follow_all Kernel h.lexemes (c ∷ r) (c ∷ m) (follow_plain Kernel c r m refl) h.are) (subst (λ (z : List ℕ). IsTextOf (z ++ c ∷ m) other) (sym h.whole) k))

-- what is read of bytes is a front of them
pub read_is_front : (bytes front rest : List ℕ) (place : Place) (tokens : List Token) → IsReadTo Kernel bytes rest place tokens → front ++ rest ≡ bytes → IsFrontOf front rest (lexicals bytes tokens)
read_is_front bytes front rest place tokens h e = record {
  lexemes = h.lexemes;
  whole = append_cancel_right (text_of h.lexemes) front rest (h.text ∙ sym e);
  are = h.are;
  listed = front_lexicals bytes rest place tokens h;
}
