-- Tokens spelled out behind lexemes are their tokens.
use Rattle.std.proofs.Common.{◌≡◌, ◌<◌, ℕ, Bool, true, false, ◌==◌, List, [], ◌∷◌, ◌++◌, length, sym, ap, ◌∙◌, refl, subst, append_assoc, length-append, arith, inl, inr}
use Rattle.std.proofs.lemmas.List.{append-nil}
use Rattle.std.proofs.lemmas.Bool.{false≢true}
use Rattle.text_reader.specs.declared.form.Form.TheVariants.{Kernel}
use Rattle.text_reader.specs.declared.lexeme.Piece.TheVariants.{Blank, Token}
use Rattle.text_reader.specs.Lexemes.{Lexed, text_of, AreLexemes}
use Rattle.text_reader.proofs.ByteLaws.{follow_plain}
use Rattle.text_reader.proofs.Followers.{follow_all}
use Rattle.kernel_grammar.specs.Lexicals.{Lexical, word, number, sign, line_end}
use Rattle.kernel_syntax.specs.TokenTexts.{IsTextOf, lexical_of, lexicals_of, IsFrontOf, TakesBlank, AreWell, spaced, spelled, is_ended, Writes}
use Rattle.kernel_syntax.proofs.TokenTexts.{open_after, end_of, text_tokens, IsLexed, text_out, text_in}
use Rattle.kernel_syntax.proofs.TextFronts.{tokens_joined, text_joined, are_more}
use Rattle.kernel_syntax.proofs.Gaps.{blank_before, blank_behind, feed_behind, line_behind}
use Rattle.kernel_syntax.proofs.WellSpelled.{class_of, well_lexeme, line_lexeme, blank_lexeme}

abbrev blank : Lexed
blank = record { piece = Blank; text = 32 ∷ [] }

abbrev returned : Lexed
returned = record { piece = Blank; text = 13 ∷ [] }

ended_more : (text : List Lexical) → is_ended text ≡ true → is_ended (line_end ∷ text) ≡ true
ended_more [] h = absurd (false≢true h)
ended_more (x ∷ text) h = h

-- the lexemes of tokens that are spelled out
abbrev pub spread : List Lexical → List Lexed
spread [] = []
spread (word text ∷ xs) = record { piece = Token (class_of (word text)); text = text } ∷ blank ∷ spread xs
spread (number digits ∷ xs) = record { piece = Token (class_of (number digits)); text = digits } ∷ blank ∷ spread xs
spread (sign text ∷ xs) = record { piece = Token (class_of (sign text)); text = text } ∷ blank ∷ spread xs
spread (line_end ∷ xs) = record { piece = Token (class_of line_end); text = 10 ∷ [] } ∷ spread xs

spread_text : (xs : List Lexical) → text_of (spread xs) ≡ spelled xs
spread_text [] = refl
spread_text (word text ∷ xs) = ap (λ (z : List ℕ). text ++ 32 ∷ z) (spread_text xs)
spread_text (number text ∷ xs) = ap (λ (z : List ℕ). text ++ 32 ∷ z) (spread_text xs)
spread_text (sign text ∷ xs) = ap (λ (z : List ℕ). text ++ 32 ∷ z) (spread_text xs)
spread_text (line_end ∷ xs) = ap (λ (z : List ℕ). 10 ∷ z) (spread_text xs)

spread_are : (xs : List Lexical) → AreWell xs → AreLexemes Kernel (spread xs) []
spread_are [] h = tt
spread_are (word text ∷ xs) h = (well_lexeme (word text) (text_of (spread xs) ++ []) h.0, (blank_lexeme (text_of (spread xs) ++ []), spread_are xs h.1))
spread_are (number text ∷ xs) h = (well_lexeme (number text) (text_of (spread xs) ++ []) h.0, (blank_lexeme (text_of (spread xs) ++ []), spread_are xs h.1))
spread_are (sign text ∷ xs) h = (well_lexeme (sign text) (text_of (spread xs) ++ []) h.0, (blank_lexeme (text_of (spread xs) ++ []), spread_are xs h.1))
spread_are (line_end ∷ xs) h = (line_lexeme (text_of (spread xs) ++ []), spread_are xs h.1)

spread_lexicals : (xs : List Lexical) → lexicals_of (spread xs) ≡ xs
spread_lexicals [] = refl
spread_lexicals (word text ∷ xs) = ap (λ (z : List Lexical). word text ∷ z) (spread_lexicals xs)
spread_lexicals (number text ∷ xs) = ap (λ (z : List Lexical). number text ∷ z) (spread_lexicals xs)
spread_lexicals (sign text ∷ xs) = ap (λ (z : List Lexical). sign text ∷ z) (spread_lexicals xs)
spread_lexicals (line_end ∷ xs) = ap (λ (z : List Lexical). line_end ∷ z) (spread_lexicals xs)

spread_ended : (begun : Bool) (xs : List Lexical) → is_ended xs ≡ true → open_after begun (spread xs) ≡ false
spread_ended begun [] h = absurd (false≢true h)
spread_ended begun (word text ∷ []) h = absurd (false≢true h)
spread_ended begun (number text ∷ []) h = absurd (false≢true h)
spread_ended begun (sign text ∷ []) h = absurd (false≢true h)
spread_ended begun (line_end ∷ []) h = refl
spread_ended begun (word text ∷ y ∷ xs) h = spread_ended true (y ∷ xs) h
spread_ended begun (number text ∷ y ∷ xs) h = spread_ended true (y ∷ xs) h
spread_ended begun (sign text ∷ y ∷ xs) h = spread_ended true (y ∷ xs) h
spread_ended begun (line_end ∷ y ∷ xs) h = spread_ended false (y ∷ xs) h

-- lexemes with these tokens, the last of which ends a line
record IsSpread (ys : List Lexed) (bytes : List ℕ) (text : List Lexical) : Type 0 where
  some : 0 < length bytes
  whole : text_of ys ≡ bytes
  are : AreLexemes Kernel ys []
  listed : text_tokens ys ≡ text

some_spelled : (xs : List Lexical) → is_ended xs ≡ true → AreWell xs → 0 < length (spelled xs)
some_spelled [] e h = absurd (false≢true e)
some_spelled (word text ∷ xs) e h = omega (arith, length-append text (32 ∷ spelled xs))
some_spelled (number text ∷ xs) e h = omega (arith, length-append text (32 ∷ spelled xs))
some_spelled (sign text ∷ xs) e h = omega (arith, length-append text (32 ∷ spelled xs))
some_spelled (line_end ∷ xs) e h = omega arith

spread_is : (xs : List Lexical) → is_ended xs ≡ true → AreWell xs → IsSpread (spread xs) (spelled xs) xs
spread_is xs e h = record {
  some = some_spelled xs e h;
  whole = spread_text xs;
  are = spread_are xs h;
  listed = ap (λ (b : Bool). lexicals_of (spread xs) ++ end_of b) (spread_ended false xs e) ∙ append-nil (lexicals_of (spread xs)) ∙ spread_lexicals xs;
}

more_spread : (y z : Lexed) (ys : List Lexed) → text_tokens (y ∷ z ∷ ys) ≡ lexical_of y.piece y.text ++ text_tokens (z ∷ ys)
more_spread y z ys = append_assoc (lexical_of y.piece y.text) (lexicals_of (z ∷ ys)) (end_of (open_after false (z ∷ ys)))

-- a blank before them
after_blank : (ys : List Lexed) (bytes : List ℕ) (text : List Lexical) → IsSpread ys bytes text → IsSpread (blank ∷ ys) (32 ∷ bytes) text
after_blank [] bytes text h = absurd (omega (arith, h.some, ap length h.whole))
after_blank (y ∷ ys) bytes text h = record {
  some = omega arith;
  whole = ap (λ (z : List ℕ). 32 ∷ z) h.whole;
  are = (blank_lexeme (text_of (y ∷ ys) ++ []), h.are);
  listed = h.listed;
}

-- lexemes and others behind them
joined_text : (xs ys : List Lexed) (bytes : List ℕ) (text : List Lexical) → AreLexemes Kernel xs bytes → IsSpread ys bytes text → IsTextOf (text_of xs ++ bytes) (lexicals_of xs ++ text)
joined_text xs ys bytes text are h =
    let before : AreLexemes Kernel xs (text_of ys ++ []) = subst (λ (z : List ℕ). AreLexemes Kernel xs z) (sym h.whole ∙ sym (append-nil (text_of ys))) are in
    let long : length (text_of ys) ≡ length bytes = ap length h.whole in
    text_in (text_of xs ++ bytes) (lexicals_of xs ++ text) (record {
      lexemes = xs ++ ys;
      whole = text_joined xs ys ∙ ap (λ (z : List ℕ). text_of xs ++ z) h.whole;
      are = are_more xs ys [] before h.are;
      listed = ap (λ (z : List Lexical). lexicals_of xs ++ z) (sym h.listed) ∙ sym (tokens_joined xs ys (omega (arith, h.some, long)));
    })

-- a front and the bytes of lexemes behind it
behind_front : (front bytes : List ℕ) (front_text text : List Lexical) (ys : List Lexed) → IsFrontOf front bytes front_text → IsSpread ys bytes text → IsTextOf (front ++ bytes) (front_text ++ text)
behind_front front bytes front_text text ys h k =
    subst (λ (z : List Lexical). IsTextOf (front ++ bytes) (z ++ text)) (sym h.listed)
    (subst (λ (z : List ℕ). IsTextOf (z ++ bytes) (lexicals_of h.lexemes ++ text)) h.whole (joined_text h.lexemes ys bytes text h.are k))

-- the front before another rest
pub front_before : (front r s : List ℕ) (text : List Lexical) → (h : IsFrontOf front r text) → AreLexemes Kernel h.lexemes s → IsFrontOf front s text
front_before front r s text h k = record { lexemes = h.lexemes; whole = h.whole; are = k; listed = h.listed }

-- a blank and tokens spelled out, where another byte than a line feed stood
pub spelled_instead : (front : List ℕ) (c : ℕ) (r : List ℕ) (front_text text : List Lexical) → (c == 10) ≡ false → IsFrontOf front (c ∷ r) front_text → is_ended text ≡ true → AreWell text → IsTextOf (front ++ 32 ∷ spelled text) (front_text ++ text)
spelled_instead front c r front_text text e h ended well =
    behind_front front (32 ∷ spelled text) front_text text (blank ∷ spread text) (front_before front (c ∷ r) (32 ∷ spelled text) front_text h (blank_before h.lexemes c r (spelled text) e h.are)) (after_blank (spread text) (spelled text) text (spread_is text ended well))

-- the same behind a token or a blank, whatever stood there
pub spelled_behind : (front r : List ℕ) (front_text text : List Lexical) → TakesBlank front r front_text → is_ended text ≡ true → AreWell text → IsTextOf (front ++ 32 ∷ spelled text) (front_text ++ text)
spelled_behind front r front_text text h ended well =
    behind_front front (32 ∷ spelled text) front_text text (blank ∷ spread text) (front_before front r (32 ∷ spelled text) front_text h.is (blank_behind h.is.lexemes r (spelled text) h.last h.is.are)) (after_blank (spread text) (spelled text) text (spread_is text ended well))

spread_on : (x : Lexical) (bytes : List ℕ) (text : List Lexical) → Writes x bytes → is_ended (x ∷ text) ≡ true → AreWell (x ∷ text) → (ys : List Lexed) × IsSpread ys (bytes ++ spaced x (spelled text)) (x ∷ text)
spread_on x bytes text (inl e) ended well = (spread (x ∷ text), subst (λ (z : List ℕ). IsSpread (spread (x ∷ text)) (z ++ spaced x (spelled text)) (x ∷ text)) (sym e) (spread_is (x ∷ text) ended well))
spread_on x bytes text (inr e) ended well =
    let h = spread_is (line_end ∷ text) (subst (λ (y : Lexical). is_ended (y ∷ text) ≡ true) e.0 ended) (tt, well.1) in
    let ys = spread (line_end ∷ text) in
    let k : IsSpread (returned ∷ ys) (13 ∷ spelled (line_end ∷ text)) (line_end ∷ text) = record {
      some = omega arith;
      whole = ap (λ (z : List ℕ). 13 ∷ z) h.whole;
      are = (record { some = omega arith; kind = refl; whole = refl }, h.are);
      listed = h.listed;
    } in
    let l : IsSpread (returned ∷ ys) (bytes ++ spelled text) (line_end ∷ text) = subst (λ (z : List ℕ). IsSpread (returned ∷ ys) (z ++ spelled text) (line_end ∷ text)) (sym e.1) k in
    (returned ∷ ys, subst (λ (y : Lexical). IsSpread (returned ∷ ys) (bytes ++ spaced y (spelled text)) (y ∷ text)) (sym e.0) l)

-- a token whose first bytes stand there, completed, and tokens spelled out behind it
pub spelled_on : (front : List ℕ) (c : ℕ) (begun r others : List ℕ) (front_text : List Lexical) (x : Lexical) (text : List Lexical) → IsFrontOf front (c ∷ r) front_text → Writes x ((c ∷ begun) ++ others) → is_ended (x ∷ text) ≡ true → AreWell (x ∷ text)
    → IsTextOf ((front ++ c ∷ begun) ++ (others ++ spaced x (spelled text))) (front_text ++ x ∷ text)
spelled_on front c begun r others front_text x text h writes ended well =
    let bytes = ((c ∷ begun) ++ others) ++ spaced x (spelled text) in
    let s = spread_on x ((c ∷ begun) ++ others) text writes ended well in
    let k = behind_front front bytes front_text (x ∷ text) s.0 (front_before front (c ∷ r) bytes front_text h (follow_all Kernel h.lexemes (c ∷ r) bytes (follow_plain Kernel c r ((begun ++ others) ++ spaced x (spelled text)) refl) h.are)) s.1 in
    subst (λ (z : List ℕ). IsTextOf z (front_text ++ x ∷ text)) (ap (λ (z : List ℕ). front ++ z) (append_assoc (c ∷ begun) others (spaced x (spelled text))) ∙ sym (append_assoc front (c ∷ begun) (others ++ spaced x (spelled text)))) k

-- A text of tokens goes on with others.
pub record GoesOn (bytes : List ℕ) (text : List Lexical) : Type 0 where
  pub more : List ℕ
  pub are : IsTextOf (bytes ++ more) text

whole_by : (bytes : List ℕ) (front_text text : List Lexical) (started : Bool) → (h : IsLexed bytes front_text) → open_after false h.lexemes ≡ started → is_ended text ≡ true → AreWell text → GoesOn bytes (front_text ++ text)
whole_by bytes front_text text true h e ended well =
    let front : IsFrontOf bytes (10 ∷ spelled text) (lexicals_of h.lexemes) = record { lexemes = h.lexemes; whole = h.whole; are = feed_behind h.lexemes [] (spelled text) h.are; listed = refl } in
    let all : lexicals_of h.lexemes ++ line_end ∷ text ≡ front_text ++ text = sym (append_assoc (lexicals_of h.lexemes) (line_end ∷ []) text) ∙ ap (λ (z : List Lexical). z ++ text) (ap (λ (b : Bool). lexicals_of h.lexemes ++ end_of b) (sym e) ∙ sym h.listed) in
    record { more = 10 ∷ spelled text; are = subst (λ (z : List Lexical). IsTextOf (bytes ++ 10 ∷ spelled text) z) all (behind_front bytes (10 ∷ spelled text) (lexicals_of h.lexemes) (line_end ∷ text) (spread (line_end ∷ text)) front (spread_is (line_end ∷ text) (ended_more text ended) (tt, well))) }
whole_by bytes front_text text false h e ended well =
    let all : front_text ≡ lexicals_of h.lexemes = h.listed ∙ ap (λ (b : Bool). lexicals_of h.lexemes ++ end_of b) e ∙ append-nil (lexicals_of h.lexemes) in
    let front : IsFrontOf bytes (spelled text) front_text = record { lexemes = h.lexemes; whole = h.whole; are = line_behind h.lexemes [] (spelled text) e h.are; listed = all } in
    record { more = spelled text; are = behind_front bytes (spelled text) front_text text (spread text) front (spread_is text ended well) }

-- tokens spelled out behind a whole text
pub spelled_after : (bytes : List ℕ) (front_text text : List Lexical) → IsTextOf bytes front_text → is_ended text ≡ true → AreWell text → GoesOn bytes (front_text ++ text)
spelled_after bytes front_text text h ended well = let k = text_out bytes front_text h in whole_by bytes front_text text (open_after false k.lexemes) k refl ended well

-- tokens spelled out
pub spelled_text : (text : List Lexical) → is_ended text ≡ true → AreWell text → IsTextOf (spelled text) text
spelled_text text ended well = behind_front [] (spelled text) [] text (spread text) (record { lexemes = []; whole = refl; are = tt; listed = refl }) (spread_is text ended well)

pub ends_line : (text : List Lexical) → is_ended (text ++ line_end ∷ []) ≡ true
ends_line [] = refl
ends_line (x ∷ []) = refl
ends_line (x ∷ y ∷ text) = ends_line (y ∷ text)
