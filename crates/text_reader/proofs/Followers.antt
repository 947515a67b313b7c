-- What stands before bytes depends on little of them.
use Rattle.std.proofs.Common.{◌≡◌, ◌<◌, ℕ, Bool, true, not, List, [], ◌∷◌, ◌++◌, length, sym, ap, ◌∙◌, refl, arith, Some}
use Rattle.std.proofs.lemmas.Bool.{and_from, and_parts}
use Rattle.text_reader.specs.declared.form.Form.{Form}
use Rattle.text_reader.specs.declared.token.Class.TheVariants.{Word, Number, Sign, LineEnd}
use Rattle.text_reader.specs.declared.lexeme.Piece.{Piece}
use Rattle.text_reader.specs.declared.lexeme.Piece.TheVariants.{Blank, Comment, Token}
use Rattle.text_reader.specs.Bytes.{is_feed, goes_on, kind_at}
use Rattle.text_reader.specs.Lexemes.{Lexed, is_run, kind_of, IsSign, IsWhole, IsLexeme, text_of, AreLexemes}
use Rattle.text_reader.specs.Progress.{Continues}

follow_byte : (form : Form) (r s : List ℕ) (c : ℕ) → Continues form r s → Continues form (c ∷ r) (c ∷ s)
follow_byte form r s c h = record {
  feed = refl;
  ended = λ piece k. ap (λ (f : Bool). not (goes_on form piece c f)) (sym h.feed) ∙ k;
  alone = λ d k. k;
}

pub follow_front : (form : Form) (front r s : List ℕ) → Continues form r s → Continues form (front ++ r) (front ++ s)
follow_front form [] r s h = h
follow_front form (c ∷ front) r s h = follow_byte form (front ++ r) (front ++ s) c (follow_front form front r s h)

follow_run : (form : Form) (piece : Piece) (text r s : List ℕ) → Continues form r s → is_run form piece text r ≡ true → is_run form piece text s ≡ true
follow_run form piece [] r s h k = h.ended piece k
follow_run form piece (c ∷ text) r s h k =
    let parts = and_parts (goes_on form piece c (is_feed (text ++ r))) (is_run form piece text r) k in
    let here = ap (goes_on form piece c) (sym (follow_front form text r s h).feed) ∙ parts.0 in
    and_from (goes_on form piece c (is_feed (text ++ s))) (is_run form piece text s) here (follow_run form piece text r s h parts.1)

follow_sign : (form : Form) (text r s : List ℕ) → Continues form r s → IsSign form text r → IsSign form text s
follow_sign form [] r s h k = k
follow_sign form (c ∷ []) r s h k = (k.0, h.alone c k.1)
follow_sign form (c ∷ d ∷ []) r s h k = k
follow_sign form (c ∷ d ∷ e ∷ text) r s h k = k

follow_whole : (form : Form) (piece : Piece) (text r s : List ℕ) → Continues form r s → IsWhole form piece text r → IsWhole form piece text s
follow_whole form Blank text r s h k = k
follow_whole form Comment text r s h k = follow_run form Comment text r s h k
follow_whole form (Token Word) text r s h k = (follow_run form (Token Word) text r s h k.0, k.1)
follow_whole form (Token Number) text r s h k = follow_run form (Token Number) text r s h k
follow_whole form (Token Sign) text r s h k = follow_sign form text r s h k
follow_whole form (Token LineEnd) text r s h k = k

follow_kind : (form : Form) (text r s : List ℕ) → Continues form r s → 0 < length text → kind_of form (text ++ s) ≡ kind_of form (text ++ r)
follow_kind form [] r s h some = absurd (omega arith)
follow_kind form (c ∷ text) r s h some = ap (λ (f : Bool). Some (kind_at form c f)) (sym (follow_front form text r s h).feed)

pub follow_lexeme : (form : Form) (piece : Piece) (text r s : List ℕ) → Continues form r s → IsLexeme form piece text r → IsLexeme form piece text s
follow_lexeme form piece text r s h k = record {
  some = k.some;
  kind = follow_kind form text r s h k.some ∙ k.kind;
  whole = follow_whole form piece text r s h k.whole;
}

pub follow_all : (form : Form) (xs : List Lexed) (r s : List ℕ) → Continues form r s → AreLexemes form xs r → AreLexemes form xs s
follow_all form [] r s h k = tt
follow_all form (x ∷ xs) r s h k = (follow_lexeme form x.piece x.text (text_of xs ++ r) (text_of xs ++ s) (follow_front form (text_of xs) r s h) k.0, follow_all form xs r s h k.1)
