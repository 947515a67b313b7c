-- At most one lexeme stands at the front of bytes, so a text has one list of lexemes.
use Rattle.std.proofs.Common.{◌≡◌, ℕ, Bool, true, false, not, ◌&&◌, List, [], ◌∷◌, ◌++◌, length, take, sym, ap, ◌∙◌, refl, subst, append_assoc, length-append, arith, Some}
use Rattle.std.proofs.lemmas.List.{take_at, append-nil, append_cancel_left}
use Rattle.std.proofs.lemmas.Bool.{false≢true, and_parts, both_ways, not-true}
use Rattle.text_reader.specs.declared.form.Form.{Form}
use Rattle.text_reader.specs.declared.token.Class.TheVariants.{Word, Number, Sign, LineEnd}
use Rattle.text_reader.specs.declared.lexeme.Piece.{Piece}
use Rattle.text_reader.specs.declared.lexeme.Piece.TheVariants.{Blank, Comment, Token}
use Rattle.text_reader.specs.Bytes.{is_feed, goes_on}
use Rattle.text_reader.specs.Signs.{is_pair}
use Rattle.text_reader.specs.Lexemes.{Lexed, ends, is_run, kind_of, lacks_pair, IsSign, IsWhole, IsLexeme, text_of, AreLexemes}

not_both : (a b : Bool) → not a ≡ true → (a && b) ≡ true → ⊥
not_both true b h k = false≢true h
not_both false b h k = false≢true k

same_run : (form : Form) (piece : Piece) (a r b s : List ℕ) → is_run form piece a r ≡ true → is_run form piece b s ≡ true → a ++ r ≡ b ++ s → a ≡ b
same_run form piece [] r [] s h k e = refl
same_run form piece [] r (c ∷ b) s h k e = absurd (not_both (goes_on form piece c (is_feed (b ++ s))) (is_run form piece b s) (ap (ends form piece) (sym e) ∙ h) k)
same_run form piece (c ∷ a) r [] s h k e = absurd (not_both (goes_on form piece c (is_feed (a ++ r))) (is_run form piece a r) (ap (ends form piece) e ∙ k) h)
same_run form piece (c ∷ a) r (d ∷ b) s h k e =
    let first : c ≡ d = cc in
    let more : a ++ r ≡ b ++ s = cc in
    let same = same_run form piece a r b s (and_parts (goes_on form piece c (is_feed (a ++ r))) (is_run form piece a r) h).1 (and_parts (goes_on form piece d (is_feed (b ++ s))) (is_run form piece b s) k).1 more in
    cc

pub no_pair : (form : Form) (c : ℕ) (r : List ℕ) (d e : ℕ) (s : List ℕ) → lacks_pair form c r ≡ true → is_pair form d e ≡ true → c ∷ r ≡ d ∷ e ∷ s → ⊥
no_pair form c r d e s h k f =
    let more : r ≡ e ∷ s = cc in
    let first : c ≡ d = cc in
    let lacks : not (is_pair form c e) ≡ true = ap (lacks_pair form c) (sym more) ∙ h in
    both_ways (is_pair form c e) (not-true (is_pair form c e) lacks) (ap (λ (x : ℕ). is_pair form x e) first ∙ k)

same_sign : (form : Form) (a r b s : List ℕ) → IsSign form a r → IsSign form b s → a ++ r ≡ b ++ s → a ≡ b
same_sign form [] r b s h k e = absurd h
same_sign form (c ∷ []) r [] s h k e = absurd k
same_sign form (c ∷ []) r (d ∷ []) s h k e = cc
same_sign form (c ∷ []) r (d ∷ f ∷ []) s h k e = absurd (no_pair form c r d f s h.1 k e)
same_sign form (c ∷ []) r (d ∷ f ∷ g ∷ b) s h k e = absurd k
same_sign form (c ∷ d ∷ []) r [] s h k e = absurd k
same_sign form (c ∷ d ∷ []) r (f ∷ []) s h k e = absurd (no_pair form f s c d r k.1 h (sym e))
same_sign form (c ∷ d ∷ []) r (f ∷ g ∷ []) s h k e = cc
same_sign form (c ∷ d ∷ []) r (f ∷ g ∷ i ∷ b) s h k e = absurd k
same_sign form (c ∷ d ∷ f ∷ a) r b s h k e = absurd h

same_byte : (a r b s : List ℕ) → length a ≡ 1 → length b ≡ 1 → a ++ r ≡ b ++ s → a ≡ b
same_byte a r b s h k e = sym (take_at a r 1 h) ∙ ap (take 1) e ∙ take_at b s 1 k

same_whole : (form : Form) (piece : Piece) (a r b s : List ℕ) → IsWhole form piece a r → IsWhole form piece b s → a ++ r ≡ b ++ s → a ≡ b
same_whole form Blank a r b s h k e = same_byte a r b s h k e
same_whole form Comment a r b s h k e = same_run form Comment a r b s h k e
same_whole form (Token Word) a r b s h k e = same_run form (Token Word) a r b s h.0 k.0 e
same_whole form (Token Number) a r b s h k e = same_run form (Token Number) a r b s h k e
same_whole form (Token Sign) a r b s h k e = same_sign form a r b s h k e
same_whole form (Token LineEnd) a r b s h k e = same_byte a r b s h k e

pub same_lexeme : (form : Form) (p q : Piece) (a r b s : List ℕ) → IsLexeme form p a r → IsLexeme form q b s → a ++ r ≡ b ++ s → (p ≡ q) × (a ≡ b) × (r ≡ s)
same_lexeme form p q a r b s h k e =
    let kinds : Some p ≡ Some q = sym h.kind ∙ ap (kind_of form) e ∙ k.kind in
    let same : p ≡ q = cc in
    let whole = subst (λ (x : Piece). IsWhole form x b s) (sym same) k.whole in
    let texts = same_whole form p a r b s h.whole whole e in
    (same, texts, append_cancel_left a r s (e ∙ ap (λ (x : List ℕ). x ++ s) (sym texts)))

same_lexed : (x y : Lexed) → x.piece ≡ y.piece → x.text ≡ y.text → x ≡ y
same_lexed x y e f =
    let pieces : x ≡ record { piece = y.piece; text = x.text } = ap (λ (p : Piece). let z : Lexed = record { piece = p; text = x.text } in z) e in
    pieces ∙ ap (λ (t : List ℕ). let z : Lexed = record { piece = y.piece; text = t } in z) f

-- lexemes that begin with others
pub record Begin (form : Form) (xs ys : List Lexed) (rest : List ℕ) : Type 0 where
  pub more : List Lexed
  pub split : ys ≡ xs ++ more
  pub text : text_of more ≡ rest
  pub are : AreLexemes form more []

pub begin_so : (form : Form) (xs : List Lexed) (rest : List ℕ) (ys : List Lexed) → AreLexemes form xs rest → AreLexemes form ys [] → text_of xs ++ rest ≡ text_of ys → Begin form xs ys rest
begin_so form [] rest ys h k e = record { more = ys; split = refl; text = sym e; are = k }
begin_so form (x ∷ xs) rest [] h k e =
    let empty = ap length e in
    absurd (omega (arith, h.0.some, simp length-append at empty))
begin_so form (x ∷ xs) rest (y ∷ ys) h k e =
    let none : text_of ys ++ [] ≡ text_of ys = append-nil (text_of ys) in
    let whole : x.text ++ (text_of xs ++ rest) ≡ y.text ++ (text_of ys ++ []) = sym (append_assoc x.text (text_of xs) rest) ∙ e ∙ ap (λ (z : List ℕ). y.text ++ z) (sym none) in
    let same = same_lexeme form x.piece y.piece x.text (text_of xs ++ rest) y.text (text_of ys ++ []) h.0 k.0 whole in
    let first : x ≡ y = same_lexed x y same.0 same.1 in
    let below = begin_so form xs rest ys h.1 k.1 (same.2 ∙ none) in
    let split : ys ≡ xs ++ below.more = below.split in
    record { more = below.more; split = cc; text = below.text; are = below.are }
