-- Where a line's end stands behind tokens, it stands behind each front with these tokens.
use Rattle.std.proofs.Common.{◌≡◌, ◌⊎◌, ℕ, true, List, [], ◌∷◌, ◌++◌, sym, ap, ◌∙◌, refl, subst, append_assoc, arith, inl, inr}
use Rattle.std.proofs.lemmas.List.{append_cancel_left}
use Rattle.text_reader.specs.declared.form.Form.TheVariants.{Kernel}
use Rattle.text_reader.specs.declared.token.Class.TheVariants.{LineEnd}
use Rattle.text_reader.specs.declared.lexeme.Piece.{Piece}
use Rattle.text_reader.specs.declared.lexeme.Piece.TheVariants.{Blank, Comment, Token}
use Rattle.text_reader.specs.Bytes.{is_feed, kind_at}
use Rattle.text_reader.specs.Lexemes.{Lexed}
use Rattle.kernel_grammar.specs.Lexicals.{Lexical, line_end}
use Rattle.kernel_syntax.specs.TokenTexts.{IsTextOf, IsFrontOf, lexical_of, lexicals_of}
use Rattle.kernel_syntax.proofs.Gaps.{feed_behind}
use Rattle.kernel_syntax.proofs.WellSpelled.{line_lexeme}
use Rattle.kernel_syntax.proofs.NextTokens.{FirstOf, first_of, next_line}
use Rattle.kernel_syntax.proofs.TokenTexts.{is_open, open_after, end_of, text_in}
use Rattle.kernel_syntax.proofs.TextFronts.{text_joined, are_more, tokens_joined, same_front}

-- a front with a line feed behind it
feed_text : (front rest : List ℕ) (before : List Lexical) → IsFrontOf front rest before → IsTextOf (front ++ 10 ∷ []) (before ++ line_end ∷ [])
feed_text front rest before h =
    let x : Lexed = record { piece = Token LineEnd; text = 10 ∷ [] } in
    text_in (front ++ 10 ∷ []) (before ++ line_end ∷ []) (record {
      lexemes = h.lexemes ++ x ∷ [];
      whole = text_joined h.lexemes (x ∷ []) ∙ ap (λ (z : List ℕ). z ++ 10 ∷ []) h.whole;
      are = are_more h.lexemes (x ∷ []) [] (feed_behind h.lexemes rest [] h.are) (line_lexeme [], tt);
      listed = ap (λ (z : List Lexical). z ++ line_end ∷ []) h.listed ∙ sym (tokens_joined h.lexemes (x ∷ []) (omega arith));
    })

-- bytes have a token
open_by : (piece : Piece) (text : List ℕ) (xs : List Lexed) → ([] ≡ lexicals_of xs ++ end_of (open_after true xs) → ⊥) → [] ≡ lexical_of piece text ++ (lexicals_of xs ++ end_of (open_after (is_open piece) xs)) → ⊥
open_by Blank text xs f e = f e
open_by Comment text xs f e = f e
open_by (Token class) text xs f e = cc

open_some : (xs : List Lexed) → [] ≡ lexicals_of xs ++ end_of (open_after true xs) → ⊥
open_some [] e = cc
open_some (x ∷ xs) e = open_by x.piece x.text xs (open_some xs) (e ∙ append_assoc (lexical_of x.piece x.text) (lexicals_of xs) (end_of (open_after (is_open x.piece) xs)))

first_some : (piece : Piece) (c : ℕ) (m : List ℕ) → FirstOf piece c m [] → ⊥
first_some piece c m f = open_by piece (c ∷ f.more) f.after (open_some f.after) f.listed

no_empty : (z : List ℕ) → IsTextOf (z ++ 10 ∷ []) [] → ⊥
no_empty [] h = first_some (kind_at Kernel 10 (is_feed [])) 10 [] (first_of 10 [] [] h)
no_empty (c ∷ z) h = first_some (kind_at Kernel c (is_feed (z ++ 10 ∷ []))) c (z ++ 10 ∷ []) (first_of c (z ++ 10 ∷ []) [] h)

-- One front is the other, or goes on, or stops before.
record IsShorter (xs us ys vs : List ℕ) : Type 0 where
  z : List ℕ
  split : ys ≡ xs ++ z
  left : us ≡ z ++ vs

record IsLonger (xs us ys vs : List ℕ) : Type 0 where
  d : ℕ
  z : List ℕ
  split : xs ≡ ys ++ d ∷ z
  left : vs ≡ d ∷ (z ++ us)

fronts_on : (x y : ℕ) (xs us ys vs : List ℕ) → x ≡ y → IsShorter xs us ys vs ⊎ IsLonger xs us ys vs → IsShorter (x ∷ xs) us (y ∷ ys) vs ⊎ IsLonger (x ∷ xs) us (y ∷ ys) vs
fronts_on x y xs us ys vs e (inl h) = inl (record { z = h.z; split = ap (λ (c : ℕ). c ∷ ys) (sym e) ∙ ap (λ (z : List ℕ). x ∷ z) h.split; left = h.left })
fronts_on x y xs us ys vs e (inr h) = inr (record { d = h.d; z = h.z; split = ap (λ (c : ℕ). c ∷ xs) e ∙ ap (λ (z : List ℕ). y ∷ z) h.split; left = h.left })

fronts : (xs us ys vs : List ℕ) → xs ++ us ≡ ys ++ vs → IsShorter xs us ys vs ⊎ IsLonger xs us ys vs
fronts [] us ys vs e = inl (record { z = ys; split = refl; left = e })
fronts (x ∷ xs) us [] vs e = inr (record { d = x; z = xs; split = refl; left = sym e })
fronts (x ∷ xs) us (y ∷ ys) vs e = fronts_on x y xs us ys vs (cc) (fronts xs us ys vs (cc))

-- A text goes on behind the front and the byte, with a line's end behind the tokens.
pub record EndsLine (front : List ℕ) (c : ℕ) (before : List Lexical) : Type 0 where
  pub w : List ℕ
  pub others : List Lexical
  pub is : IsTextOf (front ++ c ∷ w) (before ++ line_end ∷ others)

line_shorter : (front : List ℕ) (c : ℕ) (z more rest : List ℕ) (before : List Lexical) → c ∷ more ≡ z ++ 10 ∷ rest → IsTextOf (front ++ (z ++ 10 ∷ [])) (before ++ line_end ∷ []) → EndsLine front c before
line_shorter front c [] more rest before e h = let is : 10 ≡ c = cc in record { w = []; others = []; is = subst (λ (x : ℕ). IsTextOf (front ++ x ∷ []) (before ++ line_end ∷ [])) is h }
line_shorter front c (x ∷ z) more rest before e h = let is : x ≡ c = cc in record { w = z ++ 10 ∷ []; others = []; is = subst (λ (y : ℕ). IsTextOf (front ++ y ∷ (z ++ 10 ∷ [])) (before ++ line_end ∷ [])) is h }

line_by : (front : List ℕ) (c : ℕ) (more own rest : List ℕ) (before : List Lexical) → IsFrontOf own (10 ∷ rest) before → IsFrontOf front (c ∷ more) before → IsShorter front (c ∷ more) own (10 ∷ rest) ⊎ IsLonger front (c ∷ more) own (10 ∷ rest) → EndsLine front c before
line_by front c more own rest before h k (inl s) =
    line_shorter front c s.z more rest before s.left (subst (λ (z : List ℕ). IsTextOf z (before ++ line_end ∷ [])) (ap (λ (z : List ℕ). z ++ 10 ∷ []) s.split ∙ append_assoc front s.z (10 ∷ [])) (feed_text own (10 ∷ rest) before h))
line_by front c more own rest before h k (inr l) =
    let is : l.d ≡ 10 = let left = l.left in cc in
    let whole : front ++ 10 ∷ [] ≡ own ++ 10 ∷ (l.z ++ 10 ∷ []) = ap (λ (z : List ℕ). z ++ 10 ∷ []) l.split ∙ append_assoc own (l.d ∷ l.z) (10 ∷ []) ∙ ap (λ (x : ℕ). own ++ x ∷ (l.z ++ 10 ∷ [])) is in
    let r = same_front own 10 rest (l.z ++ 10 ∷ []) before (before ++ line_end ∷ []) h (subst (λ (z : List ℕ). IsTextOf z (before ++ line_end ∷ [])) whole (feed_text front (c ∷ more) before k)) in
    let left : line_end ∷ [] ≡ r.more = append_cancel_left before (line_end ∷ []) r.more r.split in
    let s = next_line (l.z ++ 10 ∷ []) r.more r.are in
    let split = s.split in
    let none : s.more ≡ [] = cc in
    absurd (no_empty l.z (subst (IsTextOf (l.z ++ 10 ∷ [])) none s.are))

pub line_on : (bytes own rest : List ℕ) (before : List Lexical) → bytes ≡ own ++ 10 ∷ rest → IsFrontOf own (10 ∷ rest) before → (front left : List ℕ) → bytes ≡ front ++ left → IsFrontOf front left before → (c : ℕ) (more : List ℕ) → left ≡ c ∷ more → EndsLine front c before
line_on bytes own rest before e h front left k f c more same =
    line_by front c more own rest before h (subst (λ (z : List ℕ). IsFrontOf front z before) same f) (fronts front (c ∷ more) own (10 ∷ rest) (ap (λ (z : List ℕ). front ++ z) (sym same) ∙ sym k ∙ e))
