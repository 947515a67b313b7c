-- Where a token of a whole text is refused, the place of the fault is exact.
use Rattle.std.proofs.Common.{◌≡◌, length-drop, ◌⊎◌, ◌+◌, ◌-◌, ◌^◌, ◌≤◌, ◌<◌, min, Result, Ok, IfOk, ℕ, zero, suc, false, List, [], ◌∷◌, ◌++◌, length, take, drop, get_or, drop-cons, drop_of_length-le, take_all, slice_get, Option, Some, None, MatchOption, sym, ap, ◌∙◌, refl, subst, append_assoc, length-append, arith, inl, inr}
use Rattle.std.proofs.lemmas.Option.{slice_get_cases}
use Rattle.text_reader.specs.declared.form.Form.TheVariants.{Kernel}
use Rattle.text_reader.specs.declared.fault.TextFault.{TextFault}
use Rattle.text_reader.specs.declared.fault.TextFault.TheVariants.{OutOfMemory, Syntax, Limit}
use Rattle.text_reader.specs.declared.token.Token as declared
use Rattle.text_reader.specs.declared.token.Class.{Class}
use Rattle.text_reader.specs.declared.token.Class.TheVariants.{Word, Number, Sign, LineEnd}
use Rattle.text_reader.specs.declared.place.Place.{Place}
use Rattle.text_reader.specs.declared.lexeme.Piece.TheVariants.{Token}
use Rattle.text_reader.specs.Lexemes.{IsLexeme}
use Rattle.text_reader.specs.Progress.{IsReadTo}
use Rattle.text_reader.proofs.LinePlaces.{line_end_is}
use Rattle.text_reader.specs.Limits.{bytes_of}
use Rattle.text_reader.specs.Tokens.{IsTokensOf}
use Rattle.text_reader.specs.Faults.{EndsIn}
use Rattle.text_reader.proofs.ReadOn.{one_list}
use Rattle.kernel_grammar.specs.Files.{file_text}
use Rattle.kernel_grammar.specs.Lexicals.{Lexical, line_end, lexical, lexicals}
use Rattle.kernel_expressions.specs.Settled.{Spells, Begins}
use Rattle.kernel_syntax.specs.Candidates.{IsTried}
use Rattle.kernel_syntax.specs.FileParts.{RefusesFile}
use Rattle.kernel_syntax.specs.Places.{IsBegun}
use Rattle.kernel_grammar.specs.Faults.{IsFaultAt}
use Rattle.kernel_syntax.specs.Refusals.{IsNoFile, IsSyntaxFault}
use Rattle.kernel_syntax.specs.Refused.{is_spaced, IsReadRefused, IsAtEnd, IsBlankTo, IsBehindBefore, IsRefusedAs}
use Rattle.kernel_syntax.specs.TokenTexts.{IsTextOf, IsFrontOf, TakesBlank, IsWell}
use Rattle.kernel_syntax.proofs.Kernels.{lexicals-length, no_kernel}
use Rattle.kernel_syntax.proofs.LineCounts.{same_take}
use Rattle.kernel_syntax.proofs.MendedTokens.{well_behind}
use Rattle.kernel_syntax.proofs.TokenPlaces.{IsCutAt, token_cut, no_token, no_front, spaces_on, well_front}
use Rattle.kernel_syntax.proofs.FaultLines.{EndsLine, line_on}
use Rattle.kernel_syntax.proofs.FaultStuck.{stuck_fault}
use Rattle.kernel_syntax.proofs.FaultTokens.{token_at, no_more, split_at, place_at, before_next, whole_cut}
use Rattle.kernel_syntax.proofs.FaultPlaces.{IsInner, Refuses, refuses, inner_fault, line_fault, end_fault, tried, tried_none}

-- the place of the fault
abbrev Faulty : List ℕ → ℕ → Type 0
Faulty bytes end = (line n : ℕ) → EndsIn line n (take end bytes) → IsFaultAt bytes line n

by_fault : (bytes : List ℕ) (end : ℕ) (fault : TextFault) → IsAtEnd (take end bytes) fault → Faulty bytes end → IsSyntaxFault bytes fault
by_fault bytes end OutOfMemory h f = tt
by_fault bytes end (Syntax line count) h f = f line count h
by_fault bytes end (Limit line) h f = h

-- where some tokens are refused, how many bytes of the token's begin one
abbrev pub Tries : List Lexical → ℕ → List ℕ → ℕ → Type 0
Tries all at text count = at ≤ length all → IsTried (take at all) text → IsBegun (take at all) text count

take_own : (xs ys : List ℕ) → take (length xs) (xs ++ ys) ≡ xs
take_own [] ys = refl
take_own (x ∷ xs) ys = ap (λ (z : List ℕ). x ∷ z) (take_own xs ys)

drop_own : (xs ys : List ℕ) → drop (length xs) (xs ++ ys) ≡ ys
drop_own [] ys = refl
drop_own (x ∷ xs) ys = drop_own xs ys

-- ---- a token that ends no line

pub inner_refused : (bytes : List ℕ) (all : List Lexical) (at : ℕ) (token : declared.Token) (others : List Lexical) (from : ℕ) (text : List ℕ) (count : ℕ) → IsInner token.class → all ≡ take at all ++ lexical token.class (bytes_of bytes token) ∷ others → at ≡ length (take at all) → IsCutAt bytes all token at → RefusesFile all at → IsNoFile bytes
    → from ≡ token.from → text ≡ bytes_of bytes token → Tries all at text count → Faulty bytes (from + count)
inner_refused bytes all at token others from text count i e long c h none f t tries line n p =
    let before = take at all in
    let own : Refuses before (lexical token.class c.text) = subst (λ (z : List ℕ). Refuses before (lexical token.class z)) c.own (refuses all at before (lexical token.class (bytes_of bytes token)) others e long h h.begun) in
    let well : IsWell (lexical token.class c.text) = (well_behind before (lexical token.class c.text ∷ []) (well_front (c.front ++ c.text) c.rest (before ++ lexical token.class c.text ∷ []) c.behind.is)).0 in
    let same : text ≡ c.text = t ∙ c.own in
    let goes : IsBegun before c.text count = subst (λ (z : List ℕ). IsBegun before z count) same (tries h.within (subst (IsTried before) (sym same) (tried token.class c.text c.rest before c.is well own))) in
    let place : from + count ≡ length c.front + count = omega (arith, f, c.from) in
    inner_fault bytes c.front c.text c.rest before token.class count line n i c.whole c.before c.is c.behind.is own goes (subst (λ (z : ℕ). EndsIn line n (take z bytes)) place p) none

-- ---- a line's end

-- The bytes up to the end of the last token.
pub record StandsTo (bytes : List ℕ) (from : ℕ) (before : List Lexical) : Type 0 where
  pub front : List ℕ
  pub rest : List ℕ
  pub split : bytes ≡ front ++ rest
  pub place : from ≡ length front
  pub is : TakesBlank front rest before

none_begun : (before : List Lexical) (text : List ℕ) (count : ℕ) → text ≡ [] → IsBegun before text count → count ≡ 0
none_begun before text count e g = omega (arith, g.within, ap length e)

pub line_refused : (bytes : List ℕ) (all : List Lexical) (at : ℕ) (others : List Lexical) (start from : ℕ) (text : List ℕ) (count : ℕ) → all ≡ take at all ++ line_end ∷ others → at ≡ length (take at all) → StandsTo bytes start (take at all) → RefusesFile all at → IsNoFile bytes → ((front rest : List ℕ) → bytes ≡ front ++ rest → IsFrontOf front rest (take at all) → (c : ℕ) (more : List ℕ) → rest ≡ c ∷ more → EndsLine front c (take at all))
    → (start ≤ length bytes → IsBlankTo bytes start from) → is_spaced (drop from bytes) ≡ false → text ≡ [] → Tries all at text count → Faulty bytes (from + count)
line_refused bytes all at others start from text count e long s h none goes blank spaced t tries line n p =
    let before = take at all in
    let b = blank (omega (arith, s.place, ap length s.split, length-append s.front s.rest)) in
    let rest = drop from bytes in
    let left : s.rest ≡ b.spaces ++ rest = sym (drop_own s.front s.rest) ∙ ap (drop (length s.front)) (sym s.split) ∙ ap (λ (m : ℕ). drop m bytes) (sym s.place) ∙ b.split in
    let front = s.front ++ b.spaces in
    let split : bytes ≡ front ++ rest = s.split ∙ ap (λ (z : List ℕ). s.front ++ z) left ∙ sym (append_assoc s.front b.spaces rest) in
    let takes : TakesBlank front rest before = spaces_on s.front b.spaces rest before b.are (subst (λ (z : List ℕ). TakesBlank s.front z before) left s.is) in
    let end : from ≡ length front = omega (arith, b.long, s.place, length-append s.front b.spaces) in
    let zero_begun = none_begun before text count t (tries h.within (subst (IsTried before) (sym t) (tried_none before))) in
    let place : from + count ≡ length front = omega (arith, end, zero_begun) in
    let is : take (from + count) bytes ≡ front = ap (λ (m : ℕ). take m bytes) place ∙ ap (take (length front)) split ∙ take_own front rest in
    line_fault bytes front rest before line n split takes spaced
    (goes front rest split takes.is)
    (refuses all at before line_end others e long h h.begun) (subst (EndsIn line n) is p) none

previous : (tokens : List declared.Token) (at : ℕ) (token : declared.Token) (more : List declared.Token) → drop (suc at) tokens ≡ token ∷ more → (x : declared.Token) × (drop at tokens ≡ x ∷ token ∷ more)
previous [] at token more e = absurd (no_token (suc at) token more e)
previous (x ∷ tokens) zero token more e = (x, ap (λ (z : List declared.Token). x ∷ z) e)
previous (x ∷ tokens) (suc at) token more e = previous tokens at token more e

got_by : (tokens : List declared.Token) (at : ℕ) (token : declared.Token) (more : List declared.Token) → drop at tokens ≡ token ∷ more → ((x : declared.Token) × (at < length tokens) × (slice_get tokens at ≡ Some x) × (get_or tokens at x ≡ x)) ⊎ ((length tokens ≤ at) × (slice_get tokens at ≡ None)) → slice_get tokens at ≡ Some token
got_by tokens at token more e (inl k) =
    let here = sym (drop-cons tokens at k.0 k.1) ∙ e in
    let first : get_or tokens at k.0 ≡ token = cc in
    k.2 ∙ ap (λ (t : declared.Token). Some t) (sym k.3 ∙ first)
got_by tokens at token more e (inr k) = absurd (let none = drop_of_length-le tokens k.0 in cc)

pub got_at : (tokens : List declared.Token) (at : ℕ) (token : declared.Token) (more : List declared.Token) → drop at tokens ≡ token ∷ more → slice_get tokens at ≡ Some token
got_at tokens at token more e = got_by tokens at token more e (slice_get_cases tokens at).1

-- the tokens stand in the bytes
abbrev pub Cuts : List ℕ → List declared.Token → Type 0
Cuts bytes tokens = (at : ℕ) (token : declared.Token) (more : List declared.Token) → drop at tokens ≡ token ∷ more → ((token.class ≡ LineEnd) × (more ≡ []) → ⊥) → IsCutAt bytes (lexicals bytes tokens) token at

-- a line's end stands behind each front with the tokens before it
abbrev pub Lines : List ℕ → List declared.Token → Type 0
Lines bytes tokens = (at : ℕ) (token : declared.Token) (others : List declared.Token) → drop at tokens ≡ token ∷ others → token.class ≡ LineEnd → (front rest : List ℕ) → bytes ≡ front ++ rest → IsFrontOf front rest (take at (lexicals bytes tokens)) → (c : ℕ) (more : List ℕ) → rest ≡ c ∷ more → EndsLine front c (take at (lexicals bytes tokens))

-- behind the token before
stands_behind : (bytes : List ℕ) (tokens : List declared.Token) (at start : ℕ) (token : declared.Token) (more : List declared.Token) → Cuts bytes tokens → drop at tokens ≡ token ∷ more → IsBehindBefore tokens at start → StandsTo bytes start (take at (lexicals bytes tokens))
stands_behind bytes tokens zero start token more h e b = record { front = []; rest = bytes; split = refl; place = b.none refl; is = no_front bytes }
stands_behind bytes tokens (suc at) start token more h e b =
    let x = previous tokens at token more e in
    let c = h at x.0 (token ∷ more) x.1 (λ k. let none = k.1 in cc) in
    let all = lexicals bytes tokens in
    let place : suc at ≡ at + 1 = omega arith in
    let listed : take at all ++ lexical x.0.class c.text ∷ [] ≡ take (suc at) all = ap (λ (z : List ℕ). take at all ++ lexical x.0.class z ∷ []) (sym c.own) ∙ sym (before_next bytes tokens at x.0 (token ∷ more) x.1) in
    record {
      front = c.front ++ c.text;
      rest = c.rest;
      split = c.whole ∙ sym (append_assoc c.front c.text c.rest);
      place = b.some at x.0 place (got_at tokens at x.0 (token ∷ more) x.1) ∙ c.to;
      is = subst (λ (z : List Lexical). TakesBlank (c.front ++ c.text) c.rest z) listed c.behind;
    }

-- ---- any token

by_class : (class : Class) (bytes : List ℕ) (tokens : List declared.Token) (at : ℕ) (token : declared.Token) (more : List declared.Token) (from : ℕ) (text : List ℕ) (count : ℕ) → token.class ≡ class → Cuts bytes tokens → Lines bytes tokens → drop at tokens ≡ token ∷ more → RefusesFile (lexicals bytes tokens) at → IsNoFile bytes
    → IsRefusedAs class bytes tokens at token from text → Tries (lexicals bytes tokens) at text count → Faulty bytes (from + count)
by_class Word bytes tokens at token more from text count k h goes e f none r tries = inner_refused bytes (lexicals bytes tokens) at token (lexicals bytes more) from text count (subst IsInner (sym k) tt) (split_at bytes tokens at token more e) (place_at bytes tokens at token more e) (h at token more e (λ z. let own = z.0 in cc)) f none r.0 r.1 tries
by_class Number bytes tokens at token more from text count k h goes e f none r tries = inner_refused bytes (lexicals bytes tokens) at token (lexicals bytes more) from text count (subst IsInner (sym k) tt) (split_at bytes tokens at token more e) (place_at bytes tokens at token more e) (h at token more e (λ z. let own = z.0 in cc)) f none r.0 r.1 tries
by_class Sign bytes tokens at token more from text count k h goes e f none r tries = inner_refused bytes (lexicals bytes tokens) at token (lexicals bytes more) from text count (subst IsInner (sym k) tt) (split_at bytes tokens at token more e) (place_at bytes tokens at token more e) (h at token more e (λ z. let own = z.0 in cc)) f none r.0 r.1 tries
by_class LineEnd bytes tokens at token more from text count k h goes e f none r tries =
    let all = lexicals bytes tokens in
    let split : all ≡ take at all ++ line_end ∷ lexicals bytes more = split_at bytes tokens at token more e ∙ ap (λ (c : Class). take at all ++ lexical c (bytes_of bytes token) ∷ lexicals bytes more) k in
    line_refused bytes all at (lexicals bytes more) r.from from text count split (place_at bytes tokens at token more e) (stands_behind bytes tokens at r.from token more h e r.behind) f none (goes at token more e k) r.blank r.all r.none tries

whole_lines : (bytes : List ℕ) (tokens : List declared.Token) → IsTokensOf Kernel bytes tokens → Lines bytes tokens
whole_lines bytes tokens h at token others e k front rest split is c more same =
    let all = lexicals bytes tokens in
    let here : all ≡ take at all ++ line_end ∷ lexicals bytes others = split_at bytes tokens at token others e ∙ ap (λ (x : Class). take at all ++ lexical x (bytes_of bytes token) ∷ lexicals bytes others) k in
    let text : IsTextOf bytes all = record { tokens = tokens; are = h; spelled = refl } in
    record { w = more; others = lexicals bytes others; is = subst (λ (z : List ℕ). IsTextOf z (take at all ++ line_end ∷ lexicals bytes others)) (split ∙ ap (λ (z : List ℕ). front ++ z) same) (subst (IsTextOf bytes) here text) }

-- what `refused` answers
abbrev pub IsRefused : List ℕ → List declared.Token → ℕ → ℕ × ℕ → ℕ → List ℕ → Option declared.Token → Type 0
IsRefused bytes tokens at left from text o = MatchOption o ((from ≡ left.0) × (left.0 ≤ left.1 → left.1 ≤ length bytes → text ≡ take (left.1 - left.0) (drop left.0 bytes))) (λ token. IsRefusedAs token.class bytes tokens at token from text)

by_token : (bytes : List ℕ) (tokens : List declared.Token) (at : ℕ) (left : ℕ × ℕ) (from : ℕ) (text : List ℕ) (count : ℕ) (o : Option declared.Token) → slice_get tokens at ≡ o → IsTokensOf Kernel bytes tokens → left ≡ (length bytes, length bytes) → RefusesFile (lexicals bytes tokens) at → IsNoFile bytes
    → IsRefused bytes tokens at left from text o → Tries (lexicals bytes tokens) at text count → Faulty bytes (from + count)
by_token bytes tokens at left from text count (Some token) e h l f none r tries line n p = by_class token.class bytes tokens at token (drop (suc at) tokens) from text count refl (λ m t o k z. whole_cut bytes tokens m t o h k z) (whole_lines bytes tokens h) (token_at tokens at token e) f none r tries line n p
by_token bytes tokens at left from text count None e h l f none r tries line n p =
    let all = lexicals bytes tokens in
    let one : left.0 ≡ length bytes = ap (λ (z : ℕ × ℕ). z.0) l in
    let two : left.1 ≡ length bytes = ap (λ (z : ℕ × ℕ). z.1) l in
    let nothing : left.1 - left.0 ≡ 0 = omega (arith, one, two) in
    let t : text ≡ [] = r.1 (omega (arith, one, two)) (omega (arith, two)) ∙ ap (λ (m : ℕ). take m (drop left.0 bytes)) nothing in
    let zero_begun = none_begun (take at all) text count t (tries f.within (subst (IsTried (take at all)) (sym t) (tried_none (take at all)))) in
    let whole : take at all ≡ all = take_all at all (omega (arith, no_more tokens at e, lexicals-length bytes tokens)) in
    let end : take (from + count) bytes ≡ bytes = take_all (from + count) bytes (omega (arith, r.0, one)) in
    end_fault bytes all line n (record { tokens = tokens; are = h; spelled = refl }) (subst (Begins (Spells file_text)) whole f.begun) (subst (EndsIn line n) end p) none

pub whole_refused : (bytes : List ℕ) (tokens : List declared.Token) (at : ℕ) (left : ℕ × ℕ) (from : ℕ) (text : List ℕ) (count : ℕ) (fault : TextFault) → IsRefused bytes tokens at left from text (slice_get tokens at) → Tries (lexicals bytes tokens) at text count → IsAtEnd (take (from + count) bytes) fault
    → IsTokensOf Kernel bytes tokens → left ≡ (length bytes, length bytes) → RefusesFile (lexicals bytes tokens) at → IsSyntaxFault bytes fault
whole_refused bytes tokens at left from text count fault r tries p h l f =
    let none : IsNoFile bytes = no_kernel one_list bytes tokens h (λ k. f.none (lexicals bytes tokens) refl k) in
    by_fault bytes (from + count) fault p (by_token bytes tokens at left from text count (slice_get tokens at) refl h l f none r tries)

pub tries_of : {E : Type 0} (all found : List Lexical) (at : ℕ) (text : List ℕ) (result : Result ℕ E) (count : ℕ) → found ≡ all → result ≡ Ok count → (at ≤ length found → IsTried (take at found) text → IfOk result (IsBegun (take at found) text)) → Tries all at text count
tries_of {E = E} all found at text result count e k h long t =
    let same : take at found ≡ take at all = ap (take at) e in
    subst (λ (z : List Lexical). IsBegun z text count) same (subst (λ (r : Result ℕ E). IfOk r (IsBegun (take at found) text)) k (h (omega (arith, long, ap length e)) (subst (λ (z : List Lexical). IsTried z text) (sym same) t)))

pub clamped : (bytes : List ℕ) (sum end : ℕ) (fault : TextFault) → length bytes < 2 ^ 32 - 1 → end ≡ min sum 18446744073709551615 → IsAtEnd (take end bytes) fault → IsAtEnd (take sum bytes) fault
clamped bytes sum end fault short e h = subst (λ (z : List ℕ). IsAtEnd z fault) (same_take end sum bytes (omega (arith, e)) (λ k. omega (arith, e, k, short))) h

short_by : (tokens : List declared.Token) (at : ℕ) (token : declared.Token) → slice_get tokens at ≡ Some token → ((x : declared.Token) × (at < length tokens) × (slice_get tokens at ≡ Some x) × (get_or tokens at x ≡ x)) ⊎ ((length tokens ≤ at) × (slice_get tokens at ≡ None)) → at < length tokens
short_by tokens at token h (inl k) = k.1
short_by tokens at token h (inr k) = absurd (let none = k.1 in cc)

got_short : (tokens : List declared.Token) (at : ℕ) (token : declared.Token) → slice_get tokens at ≡ Some token → at < length tokens
got_short tokens at token h = short_by tokens at token h (slice_get_cases tokens at).1

-- ---- tokens of the longest front of whole lexemes

read_lines : (bytes rest : List ℕ) (place : Place) (tokens : List declared.Token) → IsReadTo Kernel bytes rest place tokens → Lines bytes tokens
read_lines bytes rest place tokens h at token others e k front left split is c more same =
    let cut = token_cut bytes rest place tokens at token others h e in
    let own : cut.text ≡ 10 ∷ [] = line_end_is Kernel cut.text cut.rest (subst (λ (x : Class). IsLexeme Kernel (Token x) cut.text cut.rest) k cut.is) in
    line_on bytes cut.front cut.rest (take at (lexicals bytes tokens)) (cut.whole ∙ ap (λ (z : List ℕ). cut.front ++ (z ++ cut.rest)) own) (subst (λ (z : List ℕ). IsFrontOf cut.front (z ++ cut.rest) (take at (lexicals bytes tokens))) own cut.before) front left split is c more same

take_two : (xs : List ℕ) (left : ℕ) → left ≡ min 2 (length xs) → take left xs ≡ take 2 xs
take_two [] zero e = refl
take_two [] (suc left) e = refl
take_two (x ∷ []) left e = let one : left ≡ 1 = omega (arith, e) in ap (λ (n : ℕ). take n (x ∷ [])) one
take_two (x ∷ y ∷ xs) left e = let two : left ≡ 2 = omega (arith, e) in ap (λ (n : ℕ). take n (x ∷ y ∷ xs)) two

read_token : (bytes : List ℕ) (tokens : List declared.Token) (at : ℕ) (left : ℕ × ℕ) (from : ℕ) (text : List ℕ) (count : ℕ) (o : Option declared.Token) → slice_get tokens at ≡ o → IsReadRefused bytes tokens at left → IsRefused bytes tokens at left from text o → Tries (lexicals bytes tokens) at text count → Faulty bytes (from + count)
read_token bytes tokens at left from text count (Some token) e h r tries line n p =
    by_class token.class bytes tokens at token (drop (suc at) tokens) from text count refl (λ m t o k z. token_cut bytes (drop h.stuck.place.at bytes) h.stuck.place tokens m t o h.stuck.is k) (read_lines bytes (drop h.stuck.place.at bytes) h.stuck.place tokens h.stuck.is) (token_at tokens at token e) (h.refused (got_short tokens at token e)) h.stuck.no_file r tries line n p
read_token bytes tokens at left from text count None e h r tries line n p =
    let all = lexicals bytes tokens in
    let rest = drop h.stuck.place.at bytes in
    let one : left.0 ≡ h.stuck.place.at = ap (λ (z : ℕ × ℕ). z.0) h.stuck.bounds in
    let two : left.1 ≡ min (h.stuck.place.at + 2) (length bytes) = ap (λ (z : ℕ × ℕ). z.1) h.stuck.bounds in
    let whole : take at all ≡ all = take_all at all (omega (arith, no_more tokens at e, lexicals-length bytes tokens)) in
    let long : length rest ≡ length bytes - h.stuck.place.at = length-drop h.stuck.place.at bytes in
    let count_left : left.1 - left.0 ≡ min 2 (length rest) = omega (arith, one, two, long, h.stuck.short) in
    let t : text ≡ take 2 rest = r.1 (omega (arith, one, two, h.stuck.short)) (omega (arith, two)) ∙ ap (λ (m : ℕ). take (left.1 - left.0) (drop m bytes)) one ∙ take_two rest (left.1 - left.0) count_left in
    let goes : IsTried all text → IsBegun all text count = λ k. subst (λ (z : List Lexical). IsBegun z text count) whole (tries h.within (subst (λ (z : List Lexical). IsTried z text) (sym whole) k)) in
    stuck_fault bytes rest h.stuck.place tokens from text count line n h.stuck.is h.stuck.none (omega (arith, long, h.stuck.short)) (subst (Begins (Spells file_text)) whole h.begun) t goes h.stuck.no_file (r.0 ∙ one) p

pub read_refused : (bytes : List ℕ) (tokens : List declared.Token) (at : ℕ) (left : ℕ × ℕ) (from : ℕ) (text : List ℕ) (count : ℕ) (fault : TextFault) → IsRefused bytes tokens at left from text (slice_get tokens at) → Tries (lexicals bytes tokens) at text count → IsAtEnd (take (from + count) bytes) fault
    → IsReadRefused bytes tokens at left → IsSyntaxFault bytes fault
read_refused bytes tokens at left from text count fault r tries p h = by_fault bytes (from + count) fault p (read_token bytes tokens at left from text count (slice_get tokens at) refl h r tries)
