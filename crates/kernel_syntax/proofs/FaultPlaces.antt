-- Where a token is refused, the bytes up to it, and those that may begin another, are the longest front of a file.
use Rattle.std.proofs.Common.{◌≡◌, ◌+◌, ◌≤◌, ◌<◌, ℕ, zero, suc, Bool, true, false, ◌==◌, ◌&&◌, ◌||◌, if◌then◌else◌, List, [], ◌∷◌, ◌++◌, length, take, drop, sym, ap, ◌∙◌, refl, subst, append_assoc, length-append, take-append-drop, length-take-le, arith, inl, inr}
use Rattle.std.specs.Char.{is_ascii_digit}
use Rattle.std.specs.List.{list_all}
use Rattle.std.proofs.lemmas.List.{append-nil, append_cancel_left, take-append-le}
use Rattle.std.proofs.lemmas.Bool.{false≢true, and_parts, and_from}
use Rattle.std.proofs.lemmas.Bool.Decides.{nat_tests}
use Rattle.text_reader.specs.declared.form.Form.TheVariants.{Kernel}
use Rattle.text_reader.specs.declared.token.Class.{Class}
use Rattle.text_reader.specs.declared.token.Class.TheVariants.{Word, Number, Sign, LineEnd}
use Rattle.text_reader.specs.declared.lexeme.Piece.{Piece}
use Rattle.text_reader.specs.declared.lexeme.Piece.TheVariants.{Blank, Comment, Token}
use Rattle.text_reader.specs.Bytes.{is_feed, is_blank, begins_word, is_word_byte, kind_at}
use Rattle.text_reader.specs.Lexemes.{IsLexeme}
use Rattle.text_reader.specs.Spelling.{is_sign}
use Rattle.text_reader.specs.Faults.{EndsIn}
use Rattle.text_reader.proofs.LinePlaces.{line_end_is}
use Rattle.kernel_grammar.specs.Files.{file_text, IsKernelFile}
use Rattle.kernel_grammar.specs.Lexicals.{Lexical, word, number, sign, line_end, lexical}
use Rattle.kernel_expressions.specs.Settled.{Spells, Begins, SameTo}
use Rattle.kernel_syntax.specs.FileParts.{RefusesFile}
use Rattle.kernel_syntax.specs.Places.{spelled, IsWritten, GoesOn, common, IsBegun}
use Rattle.kernel_grammar.specs.Faults.{BeginsFile, IsFaultAt}
use Rattle.kernel_syntax.specs.Refused.{is_space, is_spaced}
use Rattle.kernel_syntax.specs.Refusals.{IsNoFile}
use Rattle.kernel_syntax.specs.Candidates.{IsTried}
use Rattle.kernel_syntax.specs.TokenTexts.{IsTextOf, IsFrontOf, TakesBlank, IsWell, AreWell, Writes}
use Rattle.kernel_syntax.proofs.TextFronts.{same_front}
use Rattle.kernel_syntax.proofs.FaultLines.{EndsLine}
use Rattle.kernel_syntax.proofs.NextTokens.{FirstOf, first_of, next_word, next_number, next_sign, next_pair, next_line, next_return, next_comment}
use Rattle.kernel_syntax.proofs.WellSpelled.{word_kind, number_kind, single_kind, pair_kind}
use Rattle.kernel_syntax.proofs.TokenPlaces.{well_text, well_front}
use Rattle.kernel_syntax.proofs.MendedTokens.{well_behind}
use Rattle.kernel_syntax.proofs.FileFronts.{file_behind, file_before, file_on, file_after, file_rest}

written_well : (x : Lexical) → IsWritten x → IsWell x
written_well (word w) h = h
written_well (number d) h = h
written_well (sign s) h = h
written_well line_end h = tt

well_written : (x : Lexical) → IsWell x → IsWritten x
well_written (word w) h = h
well_written (number d) h = h
well_written (sign s) h = h
well_written line_end h = tt

writes_so : (x : Lexical) (bytes : List ℕ) → spelled x ≡ bytes → Writes x bytes
writes_so (word w) bytes e = inl (sym e)
writes_so (number d) bytes e = inl (sym e)
writes_so (sign s) bytes e = inl (sym e)
writes_so line_end bytes e = inr (refl, sym e)

-- No file has the tokens and then this one, but some file begins with the tokens.
pub record Refuses (before : List Lexical) (x : Lexical) : Type 0 where
  pub none : (more : List Lexical) → Spells file_text ((before ++ x ∷ []) ++ more) → ⊥
  pub begun : Begins (Spells file_text) before

same_suc : (xs : List Lexical) (x : Lexical) (ys zs : List Lexical) → take (suc (length xs)) ((xs ++ x ∷ []) ++ ys) ≡ take (suc (length xs)) (xs ++ x ∷ zs)
same_suc [] x ys zs = refl
same_suc (y ∷ xs) x ys zs = ap (λ (z : List Lexical). y ∷ z) (same_suc xs x ys zs)

same_to : (all : List Lexical) (at : ℕ) (before : List Lexical) (x : Lexical) (others more : List Lexical) → all ≡ before ++ x ∷ others → at ≡ length before → SameTo all ((before ++ x ∷ []) ++ more) at
same_to all at before x others more e long =
    let place : suc (length before) ≡ at + 1 = omega (arith, long) in
    subst (λ (n : ℕ). take n ((before ++ x ∷ []) ++ more) ≡ take n all) place (same_suc before x more others ∙ ap (take (suc (length before))) (sym e))

-- what a refused token is
pub refuses : (all : List Lexical) (at : ℕ) (before : List Lexical) (x : Lexical) (others : List Lexical) → all ≡ before ++ x ∷ others → at ≡ length before → RefusesFile all at → Begins (Spells file_text) before → Refuses before x
refuses all at before x others e long h b = record {
  none = λ more k. h.none ((before ++ x ∷ []) ++ more) (same_to all at before x others more e long) k;
  begun = b;
}

-- ---- some file begins with the front

pub begins_at : (front : List ℕ) (c : ℕ) (cs rest : List ℕ) (before : List Lexical) (count : ℕ) → (c == 10) ≡ false → IsFrontOf front (c ∷ (cs ++ rest)) before → Begins (Spells file_text) before → IsBegun before (c ∷ cs) count → BeginsFile (front ++ take count (c ∷ cs))
begins_at front c cs rest before zero e h b g = subst BeginsFile (sym (append-nil front)) (file_before front c (cs ++ rest) before e h b)
begins_at front c cs rest before (suc n) e h b g =
    let k = g.begins (omega arith) in
    file_on front c (take n cs) (cs ++ rest) k.3 before k.0 h (writes_so k.0 ((c ∷ take n cs) ++ k.3) k.4) (written_well k.0 k.1) k.2

-- ---- no file begins with more

common_front : (q xs ys : List ℕ) → length q ≤ common (q ++ xs) (q ++ ys)
common_front [] xs ys = omega arith
common_front (c ∷ q) xs ys = let same : (c == c) ≡ true = grind (arith, nat_tests) in rw same (omega (arith, common_front q xs ys))

all_front : (f : ℕ → Bool) (xs ys : List ℕ) → list_all f (xs ++ ys) ≡ true → list_all f xs ≡ true
all_front f [] ys h = refl
all_front f (x ∷ xs) ys h = let parts = and_parts (f x) (list_all f (xs ++ ys)) h in and_from (f x) (list_all f xs) parts.0 (all_front f xs ys parts.1)

-- The first token begins with these bytes.
pub record Starts (q : List ℕ) (text : List Lexical) : Type 0 where
  pub x : Lexical
  pub others : List ℕ
  pub more : List Lexical
  pub split : text ≡ x ∷ more
  pub bytes : spelled x ≡ q ++ others

-- the token ends no line
abbrev pub IsInner : Class → Type 0
IsInner Word = Unit {0}
IsInner Number = Unit {0}
IsInner Sign = Unit {0}
IsInner LineEnd = ⊥

starts_sign : (d : ℕ) (q w m : List ℕ) (text : List Lexical) → is_sign Kernel ((d ∷ q) ++ w) ≡ true → IsTextOf ((d ∷ q) ++ m) text → Starts (d ∷ q) text
starts_sign d [] [] m text h k = let s = next_sign d m text (single_kind d (is_feed m) h) k in record { x = sign (d ∷ s.others); others = s.others; more = s.more; split = s.split; bytes = refl }
starts_sign d [] (e ∷ []) m text h k = let s = next_sign d m text (pair_kind d e (is_feed m) h) k in record { x = sign (d ∷ s.others); others = s.others; more = s.more; split = s.split; bytes = refl }
starts_sign d [] (e ∷ f ∷ w) m text h k = absurd (false≢true h)
starts_sign d (e ∷ []) [] m text h k = let s = next_pair d e m text h k in record { x = sign (d ∷ e ∷ []); others = []; more = s.0; split = s.1; bytes = refl }
starts_sign d (e ∷ []) (f ∷ w) m text h k = absurd (false≢true h)
starts_sign d (e ∷ f ∷ q) w m text h k = absurd (false≢true h)

-- behind the same tokens a token stands that begins with the first bytes of the refused one
starts_so : (class : Class) (d : ℕ) (q w m : List ℕ) (text : List Lexical) → IsInner class → IsWell (lexical class ((d ∷ q) ++ w)) → IsTextOf ((d ∷ q) ++ m) text → Starts (d ∷ q) text
starts_so Word d q w m text i h k = let s = next_word d q m text h.begins (all_front is_word_byte (d ∷ q) w h.bytes) k in record { x = word ((d ∷ q) ++ s.others); others = s.others; more = s.more; split = s.split; bytes = refl }
starts_so Number d q w m text i h k =
    let bytes = all_front is_ascii_digit (d ∷ q) w h.bytes in
    let s = next_number d q m text (and_parts (is_ascii_digit d) (list_all is_ascii_digit q) bytes).0 bytes k in
    record { x = number ((d ∷ q) ++ s.others); others = s.others; more = s.more; split = s.split; bytes = refl }
starts_so Sign d q w m text i h k = starts_sign d q w m text h k
starts_so LineEnd d q w m text i h k = absurd i

pub too_long : (before : List Lexical) (q w : List ℕ) (count : ℕ) (text : List Lexical) → length q ≡ count + 1 → IsBegun before (q ++ w) count → Spells file_text (before ++ text) → AreWell text → Starts q text → ⊥
too_long before q w count text long g f a s =
    let well : AreWell (s.x ∷ s.more) = subst AreWell s.split a in
    let goes : GoesOn before s.x = record { more = s.more; is = subst (Spells file_text) (ap (λ (z : List Lexical). before ++ z) s.split ∙ sym (append_assoc before (s.x ∷ []) s.more)) f } in
    let most = g.longest s.x (well_written s.x well.0) goes in
    let least : length q ≤ common (q ++ w) (spelled s.x) = subst (λ (z : List ℕ). length q ≤ common (q ++ w) z) (sym s.bytes) (common_front q w s.others) in
    omega (arith, most, least, long)

stands_longer : (class : Class) (front : List ℕ) (d : ℕ) (q w rest : List ℕ) (before : List Lexical) (count : ℕ) → IsInner class → IsWell (lexical class ((d ∷ q) ++ w)) → IsFrontOf front (d ∷ rest) before → length (d ∷ q) ≡ count + 1 → IsBegun before ((d ∷ q) ++ w) count → BeginsFile (front ++ d ∷ q) → ⊥
stands_longer class front d q w rest before count i well h long g b =
    let r = file_rest front d rest (q ++ b.more) before b.syntax h (subst (λ (z : List ℕ). IsKernelFile z b.syntax) (append_assoc front (d ∷ q) b.more) b.is) in
    too_long before (d ∷ q) w count r.more long g r.file (well_text (d ∷ (q ++ b.more)) r.more r.are) (starts_so class d q w b.more r.more i well r.are)

longer_by : (class : Class) (front p : List ℕ) (c : ℕ) (w rest : List ℕ) (before : List Lexical) (count : ℕ) → IsInner class → IsWell (lexical class (p ++ c ∷ w)) → IsFrontOf front (p ++ c ∷ rest) before → length p ≡ count → IsBegun before (p ++ c ∷ w) count → BeginsFile ((front ++ p) ++ c ∷ []) → ⊥
longer_by class front [] c w rest before count i well h long g b = stands_longer class front c [] w rest before count i well h (omega (arith, long)) g (subst (λ (z : List ℕ). BeginsFile (z ++ c ∷ [])) (append-nil front) b)
longer_by class front (d ∷ p) c w rest before count i well h long g b =
    let joined : (p ++ c ∷ []) ++ w ≡ p ++ c ∷ w = append_assoc p (c ∷ []) w in
    let whole : List ℕ → List ℕ = λ z. d ∷ z in
    stands_longer class front d (p ++ c ∷ []) w (p ++ c ∷ rest) before count i
    (subst (λ (z : List ℕ). IsWell (lexical class (d ∷ z))) (sym joined) well) h
    (omega (arith, long, length-append p (c ∷ [])))
    (subst (λ (z : List ℕ). IsBegun before (d ∷ z) count) (sym joined) g)
    (subst BeginsFile (append_assoc front (d ∷ p) (c ∷ [])) b)

-- where the whole token stands in the front
whole_stands : (front : List ℕ) (c : ℕ) (rest : List ℕ) (before : List Lexical) (x : Lexical) → Refuses before x → IsFrontOf front (c ∷ rest) (before ++ x ∷ []) → BeginsFile (front ++ c ∷ []) → ⊥
whole_stands front c rest before x n h b =
    let r = file_rest front c rest b.more (before ++ x ∷ []) b.syntax h (subst (λ (z : List ℕ). IsKernelFile z b.syntax) (append_assoc front (c ∷ []) b.more) b.is) in
    n.none r.more r.file

inner_by : (class : Class) (front p q rest : List ℕ) (before : List Lexical) (count : ℕ) → IsInner class → IsWell (lexical class (p ++ q)) → IsFrontOf front ((p ++ q) ++ rest) before → IsFrontOf (front ++ (p ++ q)) rest (before ++ lexical class (p ++ q) ∷ []) → Refuses before (lexical class (p ++ q)) → length p ≡ count → IsBegun before (p ++ q) count
    → (c : ℕ) (more : List ℕ) → q ++ rest ≡ c ∷ more → BeginsFile ((front ++ p) ++ c ∷ []) → ⊥
inner_by class front p [] rest before count i well h k n long g c more e b =
    let same : p ++ [] ≡ p = append-nil p in
    whole_stands (front ++ p) c more before (lexical class (p ++ [])) n (subst (λ (z : List ℕ). IsFrontOf (front ++ p) z (before ++ lexical class (p ++ []) ∷ [])) e (subst (λ (z : List ℕ). IsFrontOf (front ++ z) rest (before ++ lexical class (p ++ []) ∷ [])) same k)) b
inner_by class front p (d ∷ q) rest before count i well h k n long g c more e b =
    let same : d ≡ c = cc in
    longer_by class front p d q (q ++ rest) before count i well (subst (λ (z : List ℕ). IsFrontOf front z before) (append_assoc p (d ∷ q) rest) h) long g (subst (λ (x : ℕ). BeginsFile ((front ++ p) ++ x ∷ [])) (sym same) b)

-- ---- a refused line end

pub comment_by : (a b d e f : Bool) → (if a then Blank else if b then Token LineEnd else if d then Comment else if e then Token Word else if f then Token Number else Token Sign) ≡ Comment → d ≡ true
comment_by true b d e f h = cc
comment_by false true d e f h = cc
comment_by false false true e f h = refl
comment_by false false false true f h = cc
comment_by false false false false true h = cc
comment_by false false false false false h = cc

blank_by : (a b d e f : Bool) → (if a then Blank else if b then Token LineEnd else if d then Comment else if e then Token Word else if f then Token Number else Token Sign) ≡ Blank → a ≡ true
blank_by true b d e f h = refl
blank_by false true d e f h = cc
blank_by false false true e f h = cc
blank_by false false false true f h = cc
blank_by false false false false true h = cc
blank_by false false false false false h = cc

return_by : (c : ℕ) (feed space : Bool) → is_space c ≡ space → space ≡ false → (is_space c || ((c == 13) && feed)) ≡ true → c ≡ 13
return_by c feed true e s h = absurd (false≢true (sym s))
return_by c feed false e s h =
    let test : ((c == 13) && feed) ≡ true = sym (ap (λ (b : Bool). b || ((c == 13) && feed)) e) ∙ h in
    let own = (and_parts (c == 13) feed test).0 in
    grind (arith, nat_tests)

-- The text begins with a line's end.
abbrev OpensEnd : List Lexical → Type 0
OpensEnd text = (more : List Lexical) × (text ≡ line_end ∷ more)

end_feed : (m : List ℕ) (text : List Lexical) → IsTextOf (10 ∷ m) text → OpensEnd text
end_feed m text h = let s = next_line m text h in (s.more, s.split)

end_return : (m : List ℕ) (text : List Lexical) → IsTextOf (13 ∷ m) text → OpensEnd text
end_return m text h = let s = next_return m text h in (s.2.more, s.2.split)

-- the byte at which a line's end stands is one behind which always one stands
end_by : (piece : Piece) (c : ℕ) (w : List ℕ) (others : List Lexical) → kind_at Kernel c (is_feed w) ≡ piece → is_space c ≡ false → FirstOf piece c w (line_end ∷ others)
    → (m : List ℕ) (text : List Lexical) → IsTextOf (c ∷ m) text → OpensEnd text
end_by Blank c w others e s f m text h =
    let blank : ((is_space c) || ((c == 13) && is_feed w)) ≡ true = blank_by (is_blank c (is_feed w)) (c == 10) (c == 35) (begins_word c) (is_ascii_digit c) e in
    let is : c ≡ 13 = return_by c (is_feed w) (is_space c) refl s blank in
    end_return m text (subst (λ (x : ℕ). IsTextOf (x ∷ m) text) is h)
end_by Comment c w others e s f m text h =
    let test : (c == 35) ≡ true = comment_by (is_blank c (is_feed w)) (c == 10) (c == 35) (begins_word c) (is_ascii_digit c) e in
    let is : c ≡ 35 = grind (arith, nat_tests) in
    next_comment m text (subst (λ (x : ℕ). IsTextOf (x ∷ m) text) is h)
end_by (Token Word) c w others e s f m text h = absurd (let l = f.listed in cc)
end_by (Token Number) c w others e s f m text h = absurd (let l = f.listed in cc)
end_by (Token Sign) c w others e s f m text h = absurd (let l = f.listed in cc)
end_by (Token LineEnd) c w others e s f m text h =
    let own = line_end_is Kernel (c ∷ f.more) f.rest f.is in
    let is : c ≡ 10 = cc in
    end_feed m text (subst (λ (x : ℕ). IsTextOf (x ∷ m) text) is h)

pub line_longest : (front : List ℕ) (c : ℕ) (rest w : List ℕ) (before others : List Lexical) → IsFrontOf front (c ∷ rest) before → is_space c ≡ false → IsTextOf (front ++ c ∷ w) (before ++ line_end ∷ others) → Refuses before line_end → BeginsFile (front ++ c ∷ []) → ⊥
line_longest front c rest w before others h s k n b =
    let here = same_front front c rest w before (before ++ line_end ∷ others) h k in
    let is : line_end ∷ others ≡ here.more = append_cancel_left before (line_end ∷ others) here.more here.split in
    let first = first_of c w (line_end ∷ others) (subst (λ (z : List Lexical). IsTextOf (c ∷ w) z) (sym is) here.are) in
    let r = file_rest front c rest b.more before b.syntax h (subst (λ (z : List ℕ). IsKernelFile z b.syntax) (append_assoc front (c ∷ []) b.more) b.is) in
    let found = end_by (kind_at Kernel c (is_feed w)) c w others refl s first b.more r.more r.are in
    n.none found.0 (subst (Spells file_text) (ap (λ (z : List Lexical). before ++ z) found.1 ∙ sym (append_assoc before (line_end ∷ []) found.0)) r.file)

-- ---- the faults

pub take_front : (front text rest : List ℕ) (count : ℕ) → count ≤ length text → take (length front + count) (front ++ (text ++ rest)) ≡ front ++ take count text
take_front [] text rest count h =
    let none : 0 + count ≡ count = omega arith in
    ap (λ (n : ℕ). take n (text ++ rest)) none ∙ take-append-le count text rest h
take_front (x ∷ front) text rest count h =
    let step : length (x ∷ front) + count ≡ suc (length front + count) = omega arith in
    ap (λ (n : ℕ). take n ((x ∷ front) ++ (text ++ rest))) step ∙ ap (λ (z : List ℕ). x ∷ z) (take_front front text rest count h)

feed_kind : (feed : Bool) → kind_at Kernel 10 feed ≡ Token LineEnd
feed_kind true = refl
feed_kind false = refl

pub no_feed_by : (class : Class) (c : ℕ) (feed b : Bool) → IsInner class → kind_at Kernel c feed ≡ Token class → (c == 10) ≡ b → b ≡ false
no_feed_by class c feed false i k e = refl
no_feed_by class c feed true i k e =
    let is : c ≡ 10 = grind (arith, nat_tests) in
    let ends : Token LineEnd ≡ Token class = sym (feed_kind feed) ∙ ap (λ (x : ℕ). kind_at Kernel x feed) (sym is) ∙ k in
    let same : class ≡ LineEnd = cc in
    absurd (subst IsInner same i)

begins_by : (class : Class) (front text rest : List ℕ) (before : List Lexical) (count : ℕ) → IsInner class → IsLexeme Kernel (Token class) text rest → IsFrontOf front (text ++ rest) before → Begins (Spells file_text) before → IsBegun before text count → BeginsFile (front ++ take count text)
begins_by class front [] rest before count i l h b g = absurd (let some : 0 < 0 = l.some in omega arith)
begins_by class front (c ∷ cs) rest before count i l h b g =
    let kind = l.kind in
    let here : kind_at Kernel c (is_feed (cs ++ rest)) ≡ Token class = cc in
    begins_at front c cs rest before count (no_feed_by class c (is_feed (cs ++ rest)) (c == 10) i here refl) h b g

pub inner_fault : (bytes front text rest : List ℕ) (before : List Lexical) (class : Class) (count line n : ℕ) → IsInner class → bytes ≡ front ++ (text ++ rest) → IsFrontOf front (text ++ rest) before → IsLexeme Kernel (Token class) text rest → IsFrontOf (front ++ text) rest (before ++ lexical class text ∷ []) → Refuses before (lexical class text) → IsBegun before text count
    → EndsIn line n (take (length front + count) bytes) → IsNoFile bytes → IsFaultAt bytes line n
inner_fault bytes front text rest before class count line n i e h l k f g p none =
    let t = take count text in
    let d = drop count text in
    let same : t ++ d ≡ text = take-append-drop count text in
    let well : AreWell (before ++ lexical class text ∷ []) = well_front (front ++ text) rest (before ++ lexical class text ∷ []) k in
    let own : IsWell (lexical class text) = (well_behind before (lexical class text ∷ []) well).0 in
    record {
      front = front ++ t;
      rest = d ++ rest;
      text = e ∙ ap (λ (z : List ℕ). front ++ (z ++ rest)) (sym same) ∙ ap (λ (z : List ℕ). front ++ z) (append_assoc t d rest) ∙ sym (append_assoc front t (d ++ rest));
      place = subst (EndsIn line n) (ap (take (length front + count)) e ∙ take_front front text rest count g.within) p;
      begins = begins_by class front text rest before count i l h f.begun g;
      longest = inner_by class front t d rest before count i
          (subst (λ (z : List ℕ). IsWell (lexical class z)) (sym same) own)
          (subst (λ (z : List ℕ). IsFrontOf front (z ++ rest) before) (sym same) h)
          (subst (λ (z : List ℕ). IsFrontOf (front ++ z) rest (before ++ lexical class z ∷ [])) (sym same) k)
          (subst (λ (z : List ℕ). Refuses before (lexical class z)) (sym same) f)
          (length-take-le count text g.within)
          (subst (λ (z : List ℕ). IsBegun before z count) (sym same) g);
      none = none;
    }

pub line_fault : (bytes front rest : List ℕ) (before : List Lexical) (line n : ℕ) → bytes ≡ front ++ rest → TakesBlank front rest before → is_spaced rest ≡ false → ((c : ℕ) (more : List ℕ) → rest ≡ c ∷ more → EndsLine front c before) → Refuses before line_end
    → EndsIn line n front → IsNoFile bytes → IsFaultAt bytes line n
line_fault bytes front rest before line n e h s goes f p none = record {
  front = front;
  rest = rest;
  text = e;
  place = p;
  begins = file_behind front rest before h f.begun;
  longest = λ c more same b. let k = goes c more same in line_longest front c more k.w before k.others (subst (λ (z : List ℕ). IsFrontOf front z before) same h.is) (ap is_spaced (sym same) ∙ s) k.is f b;
  none = none;
}

pub end_fault : (bytes : List ℕ) (all : List Lexical) (line n : ℕ) → IsTextOf bytes all → Begins (Spells file_text) all → EndsIn line n bytes → IsNoFile bytes → IsFaultAt bytes line n
end_fault bytes all line n h b p none = record {
  front = bytes;
  rest = [];
  text = sym (append-nil bytes);
  place = p;
  begins = file_after bytes all h b;
  longest = λ c more same k. absurd (cc);
  none = none;
}

-- ---- what is known of a refused token's bytes

word_class : (class : Class) (c : ℕ) (feed : Bool) → kind_at Kernel c feed ≡ Token class → begins_word c ≡ true → class ≡ Word
word_class class c feed e h = let k = word_kind c feed h in cc

number_class : (class : Class) (c : ℕ) (feed : Bool) → kind_at Kernel c feed ≡ Token class → is_ascii_digit c ≡ true → class ≡ Number
number_class class c feed e h = let k = number_kind c feed h in cc

pub tried : (class : Class) (text rest : List ℕ) (before : List Lexical) → IsLexeme Kernel (Token class) text rest → IsWell (lexical class text) → Refuses before (lexical class text) → IsTried before text
tried class [] rest before l w f = absurd (let some : 0 < 0 = l.some in omega arith)
tried class (c ∷ cs) rest before l w f =
    let kind = l.kind in
    let feed = is_feed (cs ++ rest) in
    let here : kind_at Kernel c feed ≡ Token class = cc in
    record {
      word = λ h. subst (λ (k : Class). IsWell (lexical k (c ∷ cs))) (word_class class c feed here h) w;
      number = λ h g. let own = subst (λ (k : Class). Refuses before (lexical k (c ∷ cs))) (number_class class c feed here h) f in own.none g.more g.is;
    }

pub tried_none : (before : List Lexical) → IsTried before []
tried_none before = record { word = λ h. absurd (false≢true h); number = λ h g. false≢true h }
