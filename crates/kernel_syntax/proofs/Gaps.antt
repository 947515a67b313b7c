-- What may stand behind lexemes of a kernel file.
use Rattle.std.proofs.Common.{◌≡◌, ◌<◌, ℕ, Bool, true, false, not, ◌&&◌, ◌||◌, ◌==◌, List, [], ◌∷◌, ◌++◌, length, sym, ap, ◌∙◌, refl, subst, arith, Some, inl, inr, ◌⊎◌}
use Rattle.std.specs.List.{list_any}
use Rattle.std.proofs.lemmas.Bool.{false≢true, and_from, and_parts}
use Rattle.std.proofs.lemmas.Bool.Decides.{nat_tests}
use Rattle.text_reader.specs.declared.form.Form.TheVariants.{Kernel}
use Rattle.text_reader.specs.declared.token.Class.{Class}
use Rattle.text_reader.specs.declared.token.Class.TheVariants.{Word, Number, Sign, LineEnd}
use Rattle.text_reader.specs.declared.lexeme.Piece.{Piece}
use Rattle.text_reader.specs.declared.lexeme.Piece.TheVariants.{Blank, Comment, Token}
use Rattle.text_reader.specs.Bytes.{is_feed, goes_on, kind_at}
use Rattle.text_reader.specs.Signs.{pairs, is_the_pair, is_pair}
use Rattle.text_reader.specs.Lexemes.{Lexed, ends, is_run, kind_of, lacks_pair, IsSign, IsWhole, IsLexeme, text_of, AreLexemes}
use Rattle.text_reader.proofs.ByteLaws.{kind_same, goes_plain, follow_plain}
use Rattle.text_reader.proofs.Followers.{follow_lexeme}
use Rattle.text_reader.proofs.LinePlaces.{line_end_is}
use Rattle.kernel_syntax.specs.TokenTexts.{takes_blank, ends_in_token}
use Rattle.kernel_syntax.proofs.TokenTexts.{is_open, open_after}

-- a carriage return is a lexeme before a line feed alone

no_return_sign : (text rest : List ℕ) → IsSign Kernel (13 ∷ text) rest → ⊥
no_return_sign [] rest h = false≢true h.0
no_return_sign (d ∷ []) rest h = false≢true h
no_return_sign (d ∷ e ∷ text) rest h = h

return_by : (feed : Bool) (piece : Piece) (text rest : List ℕ) → kind_at Kernel 13 feed ≡ piece → IsWhole Kernel piece (13 ∷ text) rest → (piece ≡ Blank) × (feed ≡ true)
return_by true piece text rest k w = (sym k, refl)
return_by false piece text rest k w = absurd (no_return_sign text rest (subst (λ (p : Piece). IsWhole Kernel p (13 ∷ text) rest) (sym k) w))

pub return_is : (piece : Piece) (c : ℕ) (text rest : List ℕ) → (c == 13) ≡ true → IsLexeme Kernel piece (c ∷ text) rest → (piece ≡ Blank) × (is_feed (text ++ rest) ≡ true)
return_is piece c text rest e h =
    let same : c ≡ 13 = grind (arith, nat_tests) in
    let k : IsLexeme Kernel piece (13 ∷ text) rest = subst (λ (x : ℕ). IsLexeme Kernel piece (x ∷ text) rest) same h in
    let kind = k.kind in
    let here : kind_at Kernel 13 (is_feed (text ++ rest)) ≡ piece = cc in
    return_by (is_feed (text ++ rest)) piece text rest here k.whole

-- a lexeme before another rest

kind_stays : (piece : Piece) (c : ℕ) (text r s : List ℕ) → IsLexeme Kernel piece (c ∷ text) r → ((c == 13) ≡ false) ⊎ (is_feed (text ++ r) ≡ is_feed (text ++ s)) → kind_of Kernel ((c ∷ text) ++ s) ≡ Some piece
kind_stays piece c text r s h (inl e) = ap (λ (p : Piece). Some p) (kind_same Kernel c (is_feed (text ++ s)) (is_feed (text ++ r)) e) ∙ h.kind
kind_stays piece c text r s h (inr e) = ap (λ (f : Bool). Some (kind_at Kernel c f)) (sym e) ∙ h.kind

run_stays : (piece : Piece) (text r s : List ℕ) → (ends Kernel piece r ≡ true → ends Kernel piece s ≡ true) → is_run Kernel piece text r ≡ true → is_run Kernel piece text s ≡ true
run_stays piece [] r s h k = h k
run_stays piece (c ∷ text) r s h k =
    let parts = and_parts (goes_on Kernel piece c (is_feed (text ++ r))) (is_run Kernel piece text r) k in
    and_from (goes_on Kernel piece c (is_feed (text ++ s))) (is_run Kernel piece text s) (goes_plain Kernel piece c (is_feed (text ++ s)) (is_feed (text ++ r)) refl ∙ parts.0) (run_stays piece text r s h parts.1)

sign_stays : (text r s : List ℕ) → ((c : ℕ) → lacks_pair Kernel c r ≡ true → lacks_pair Kernel c s ≡ true) → IsSign Kernel text r → IsSign Kernel text s
sign_stays [] r s h k = k
sign_stays (c ∷ []) r s h k = (k.0, h c k.1)
sign_stays (c ∷ d ∷ []) r s h k = k
sign_stays (c ∷ d ∷ e ∷ text) r s h k = k

-- Behind a lexeme of the piece may stand the one rest as the other, if the piece is of the same kind there.
pub record MayFollow (piece : Piece) (r s : List ℕ) : Type 0 where
  pub ended : ends Kernel piece r ≡ true → ends Kernel piece s ≡ true
  pub alone : (c : ℕ) → lacks_pair Kernel c r ≡ true → lacks_pair Kernel c s ≡ true

whole_stays : (piece : Piece) (text r s : List ℕ) → MayFollow piece r s → IsWhole Kernel piece text r → IsWhole Kernel piece text s
whole_stays Blank text r s h k = k
whole_stays Comment text r s h k = run_stays Comment text r s h.ended k
whole_stays (Token Word) text r s h k = (run_stays (Token Word) text r s h.ended k.0, k.1)
whole_stays (Token Number) text r s h k = run_stays (Token Number) text r s h.ended k
whole_stays (Token Sign) text r s h k = sign_stays text r s h.alone k
whole_stays (Token LineEnd) text r s h k = k

lexeme_by : (piece : Piece) (c : ℕ) (text r s : List ℕ) (b : Bool) → (c == 13) ≡ b → (b ≡ true → is_feed (text ++ r) ≡ is_feed (text ++ s)) → MayFollow piece r s → IsLexeme Kernel piece (c ∷ text) r → IsLexeme Kernel piece (c ∷ text) s
lexeme_by piece c text r s true e f h k = record { some = k.some; kind = kind_stays piece c text r s k (inr (f refl)); whole = whole_stays piece (c ∷ text) r s h k.whole }
lexeme_by piece c text r s false e f h k = record { some = k.some; kind = kind_stays piece c text r s k (inl e); whole = whole_stays piece (c ∷ text) r s h k.whole }

-- The lexeme before the one rest is one before the other.
abbrev Stays : Piece → List ℕ → List ℕ → List ℕ → Type 0
Stays piece text r s = IsLexeme Kernel piece text r → IsLexeme Kernel piece text s

feed_on : (piece : Piece) (c : ℕ) (text r s : List ℕ) → (is_feed r ≡ true → is_feed s ≡ true) → (c == 13) ≡ true → IsLexeme Kernel piece (c ∷ text) r → is_feed (text ++ r) ≡ is_feed (text ++ s)
feed_on piece c [] r s f e k = let h = (return_is piece c [] r e k).1 in h ∙ sym (f h)
feed_on piece c (d ∷ text) r s f e k = refl

stays : (piece : Piece) (text r s : List ℕ) → (is_feed r ≡ true → is_feed s ≡ true) → MayFollow piece r s → Stays piece text r s
stays piece [] r s f h k = absurd (let some : 0 < 0 = k.some in omega arith)
stays piece (c ∷ text) r s f h k = lexeme_by piece c text r s (c == 13) refl (λ e. feed_on piece c text r s f e k) h k

-- The last lexeme stays one before the other rest.
abbrev LastStays : List Lexed → List ℕ → List ℕ → Type 0
LastStays [] r s = Unit {0}
LastStays (x ∷ []) r s = Stays x.piece x.text r s
LastStays (x ∷ y ∷ xs) r s = LastStays (y ∷ xs) r s

inner_stays : (piece : Piece) (text some more r s : List ℕ) → 0 < length some → Stays piece text ((some ++ more) ++ r) ((some ++ more) ++ s)
inner_stays piece text [] more r s n k = absurd (omega arith)
inner_stays piece text (c ∷ some) more r s n k = follow_lexeme Kernel piece text (c ∷ (some ++ more) ++ r) (c ∷ (some ++ more) ++ s) (follow_plain Kernel c ((some ++ more) ++ r) ((some ++ more) ++ s) refl) k

pub all_stay : (xs : List Lexed) (r s : List ℕ) → LastStays xs r s → AreLexemes Kernel xs r → AreLexemes Kernel xs s
all_stay [] r s h k = tt
all_stay (x ∷ []) r s h k = (h k.0, tt)
all_stay (x ∷ y ∷ xs) r s h k = (inner_stays x.piece x.text y.text (text_of xs) r s k.1.0.some k.0, all_stay (y ∷ xs) r s h k.1)

-- ---- a line feed or a blank behind

-- no sign of two bytes ends in the byte
abbrev lacks_second : ℕ → List (List ℕ) → Bool
lacks_second d [] = true
lacks_second d ((a ∷ b ∷ []) ∷ ps) = not (d == b) && lacks_second d ps
lacks_second d (_ ∷ ps) = false

skip : (a b e : Bool) → not b ≡ true → e ≡ false → ((a && b) || e) ≡ false
skip a true e h k = absurd (false≢true h)
skip true false e h k = k
skip false false e h k = k

no_second : (c d : ℕ) (ps : List (List ℕ)) → lacks_second d ps ≡ true → list_any (is_the_pair c d) ps ≡ false
no_second c d [] h = refl
no_second c d ([] ∷ ps) h = absurd (false≢true h)
no_second c d ((a ∷ []) ∷ ps) h = absurd (false≢true h)
no_second c d ((a ∷ b ∷ []) ∷ ps) h =
    let parts = and_parts (not (d == b)) (lacks_second d ps) h in
    skip (c == a) (d == b) (list_any (is_the_pair c d) ps) parts.0 (no_second c d ps parts.1)
no_second c d ((a ∷ b ∷ e ∷ more) ∷ ps) h = absurd (false≢true h)

pub blank_alone : (c : ℕ) → is_pair Kernel c 32 ≡ false
blank_alone c = no_second c 32 (pairs Kernel) refl

feed_alone : (c : ℕ) → is_pair Kernel c 10 ≡ false
feed_alone c = no_second c 10 (pairs Kernel) refl

ended_feed : (piece : Piece) (m : List ℕ) → ends Kernel piece (10 ∷ m) ≡ true
ended_feed Blank m = refl
ended_feed Comment m = refl
ended_feed (Token Word) m = refl
ended_feed (Token Number) m = refl
ended_feed (Token Sign) m = refl
ended_feed (Token LineEnd) m = refl

feed_follows : (piece : Piece) (r m : List ℕ) → MayFollow piece r (10 ∷ m)
feed_follows piece r m = record { ended = λ k. ended_feed piece m; alone = λ c k. ap not (feed_alone c) }

token_blank : (class : Class) (m : List ℕ) → ends Kernel (Token class) (32 ∷ m) ≡ true
token_blank Word m = refl
token_blank Number m = refl
token_blank Sign m = refl
token_blank LineEnd m = refl

blank_follows : (piece : Piece) (r m : List ℕ) → (piece ≡ Comment → ends Kernel piece r ≡ false) → MayFollow piece r (32 ∷ m)
blank_follows Comment r m h = record { ended = λ k. absurd (false≢true (sym (h refl) ∙ k)); alone = λ c k. ap not (blank_alone c) }
blank_follows Blank r m h = record { ended = λ k. refl; alone = λ c k. ap not (blank_alone c) }
blank_follows (Token class) r m h = record { ended = λ k. token_blank class m; alone = λ c k. ap not (blank_alone c) }

-- a blank may stand where another byte than a line feed stands
blank_instead : (piece : Piece) (text : List ℕ) (c : ℕ) (r m : List ℕ) → (c == 10) ≡ false → Stays piece text (c ∷ r) (32 ∷ m)
blank_instead piece text c r m e k = stays piece text (c ∷ r) (32 ∷ m) (λ f. absurd (false≢true (sym e ∙ f))) (blank_follows piece (c ∷ r) m (λ is. subst (λ (p : Piece). ends Kernel p (c ∷ r) ≡ false) (sym is) (ap (λ (b : Bool). not (not b)) e))) k

last_instead : (xs : List Lexed) (c : ℕ) (r m : List ℕ) → (c == 10) ≡ false → LastStays xs (c ∷ r) (32 ∷ m)
last_instead [] c r m e = tt
last_instead (x ∷ []) c r m e = blank_instead x.piece x.text c r m e
last_instead (x ∷ y ∷ xs) c r m e = last_instead (y ∷ xs) c r m e

pub blank_before : (xs : List Lexed) (c : ℕ) (r m : List ℕ) → (c == 10) ≡ false → AreLexemes Kernel xs (c ∷ r) → AreLexemes Kernel xs (32 ∷ m)
blank_before xs c r m e k = all_stay xs (c ∷ r) (32 ∷ m) (last_instead xs c r m e) k

-- a line feed may stand anywhere
last_feed : (xs : List Lexed) (r m : List ℕ) → LastStays xs r (10 ∷ m)
last_feed [] r m = tt
last_feed (x ∷ []) r m = stays x.piece x.text r (10 ∷ m) (λ f. refl) (feed_follows x.piece r m)
last_feed (x ∷ y ∷ xs) r m = last_feed (y ∷ xs) r m

pub feed_behind : (xs : List Lexed) (r m : List ℕ) → AreLexemes Kernel xs r → AreLexemes Kernel xs (10 ∷ m)
feed_behind xs r m k = all_stay xs r (10 ∷ m) (last_feed xs r m) k

-- anything may stand behind a line feed
line_stays : (piece : Piece) (text r s : List ℕ) → is_open piece ≡ false → Stays piece text r s
line_stays Blank text r s e k = absurd (false≢true (sym e))
line_stays Comment text r s e k = absurd (false≢true (sym e))
line_stays (Token Word) text r s e k = absurd (false≢true (sym e))
line_stays (Token Number) text r s e k = absurd (false≢true (sym e))
line_stays (Token Sign) text r s e k = absurd (false≢true (sym e))
line_stays (Token LineEnd) text r s e k = subst (λ (z : List ℕ). IsLexeme Kernel (Token LineEnd) z s) (sym (line_end_is Kernel text r k)) (record { some = omega arith; kind = refl; whole = refl })

last_line : (begun : Bool) (xs : List Lexed) (r s : List ℕ) → open_after begun xs ≡ false → LastStays xs r s
last_line begun [] r s e = tt
last_line begun (x ∷ []) r s e = line_stays x.piece x.text r s e
last_line begun (x ∷ y ∷ xs) r s e = last_line (is_open x.piece) (y ∷ xs) r s e

pub line_behind : (xs : List Lexed) (r s : List ℕ) → open_after false xs ≡ false → AreLexemes Kernel xs r → AreLexemes Kernel xs s
line_behind xs r s e k = all_stay xs r s (last_line false xs r s e) k

no_return : (piece : Piece) (c : ℕ) (text r : List ℕ) (b : Bool) → (c == 13) ≡ b → takes_blank piece (c ∷ text) ≡ true → IsLexeme Kernel piece (c ∷ text) r → b ≡ false
no_return piece c text r false e t k = refl
no_return Comment c text r true e t k = absurd (false≢true t)
no_return Blank c text r true e t k = absurd (false≢true (sym (ap not e) ∙ t))
no_return (Token class) c text r true e t k = let h = (return_is (Token class) c text r e k).0 in absurd (cc)

token_no_comment : (piece : Piece) (text r : List ℕ) → takes_blank piece text ≡ true → piece ≡ Comment → ends Kernel piece r ≡ false
token_no_comment Comment text r t e = absurd (false≢true t)
token_no_comment Blank text r t e = absurd (cc)
token_no_comment (Token class) text r t e = absurd (cc)

gap_stays : (piece : Piece) (text r m : List ℕ) → takes_blank piece text ≡ true → Stays piece text r (32 ∷ m)
gap_stays piece [] r m t k = absurd (let some : 0 < 0 = k.some in omega arith)
gap_stays piece (c ∷ text) r m t k = lexeme_by piece c text r (32 ∷ m) false (no_return piece c text r (c == 13) refl t k) (λ e. absurd (false≢true e)) (blank_follows piece r m (token_no_comment piece (c ∷ text) r t)) k

last_gap : (xs : List Lexed) (r m : List ℕ) → ends_in_token xs ≡ true → LastStays xs r (32 ∷ m)
last_gap [] r m e = tt
last_gap (x ∷ []) r m e = gap_stays x.piece x.text r m e
last_gap (x ∷ y ∷ xs) r m e = last_gap (y ∷ xs) r m e

pub blank_behind : (xs : List Lexed) (r m : List ℕ) → ends_in_token xs ≡ true → AreLexemes Kernel xs r → AreLexemes Kernel xs (32 ∷ m)
blank_behind xs r m e k = all_stay xs r (32 ∷ m) (last_gap xs r m e) k
