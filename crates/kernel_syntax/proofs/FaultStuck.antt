-- Where no lexeme stands behind the tokens, the place of the fault is exact.
use Rattle.std.proofs.Common.{◌≡◌, ◌⊎◌, ◌+◌, ◌≤◌, ◌<◌, ℕ, Bool, true, false, not, ◌==◌, ◌&&◌, if◌then◌else◌, List, [], ◌∷◌, ◌++◌, length, take, drop, take-append-drop, length-take-le, Some, sym, ap, ◌∙◌, refl, subst, append_assoc, length-append, arith, inl, inr}
use Rattle.std.specs.Char.{is_ascii_digit}
use Rattle.std.specs.List.{list_all}
use Rattle.std.proofs.lemmas.List.{append-nil}
use Rattle.std.proofs.lemmas.Bool.{false≢true, and_parts, and_from, or_left}
use Rattle.std.proofs.lemmas.Bool.Decides.{nat_tests}
use Rattle.text_reader.specs.declared.form.Form.TheVariants.{Kernel}
use Rattle.text_reader.specs.declared.token.Token as declared
use Rattle.text_reader.specs.declared.token.Class.TheVariants.{Word, Number, Sign, LineEnd}
use Rattle.text_reader.specs.declared.lexeme.Piece.{Piece}
use Rattle.text_reader.specs.declared.lexeme.Piece.TheVariants.{Blank, Comment, Token}
use Rattle.text_reader.specs.declared.place.Place.{Place}
use Rattle.text_reader.specs.Bytes.{is_feed, is_blank, begins_word, is_word_byte, goes_on, kind_at}
use Rattle.text_reader.specs.Signs.{is_single, is_pair}
use Rattle.text_reader.specs.Lexemes.{is_run, is_kept, lacks_pair, IsWhole, IsSign, text_of}
use Rattle.text_reader.specs.Spelling.{IsWord}
use Rattle.text_reader.specs.Progress.{IsReadTo, LacksLexeme}
use Rattle.text_reader.specs.Faults.{EndsIn}
use Rattle.text_reader.proofs.LinePlaces.{read_behind}
use Rattle.kernel_grammar.specs.Files.{file_text, IsKernelFile}
use Rattle.kernel_grammar.specs.Lexicals.{Lexical, word, sign, line_end, lexicals}
use Rattle.kernel_expressions.specs.Settled.{Spells, Begins}
use Rattle.kernel_syntax.specs.Candidates.{IsTried}
use Rattle.kernel_syntax.specs.Places.{IsBegun}
use Rattle.kernel_grammar.specs.Faults.{BeginsFile, IsFaultAt}
use Rattle.kernel_syntax.specs.Refusals.{IsNoFile}
use Rattle.kernel_syntax.specs.TokenTexts.{IsTextOf, IsFrontOf, AreWell}
use Rattle.kernel_syntax.proofs.TextFronts.{read_is_front}
use Rattle.kernel_syntax.proofs.NextTokens.{next_word, next_sign, next_return}
use Rattle.kernel_syntax.proofs.WellSpelled.{word_kind, number_kind}
use Rattle.kernel_syntax.proofs.TokenPlaces.{well_text}
use Rattle.kernel_syntax.proofs.FileFronts.{file_rest}
use Rattle.kernel_syntax.proofs.FaultPlaces.{Starts, no_feed_by, comment_by, begins_at, too_long, take_front}

-- ---- what stands where no lexeme does

-- The bytes go on with a run up to its end.
record HasRun (piece : Piece) (bytes : List ℕ) : Type 0 where
  text : List ℕ
  rest : List ℕ
  split : text ++ rest ≡ bytes
  is : is_run Kernel piece text rest ≡ true

run_by : (piece : Piece) (c : ℕ) (cs : List ℕ) (b : Bool) → goes_on Kernel piece c (is_feed cs) ≡ b → HasRun piece cs → HasRun piece (c ∷ cs)
run_by piece c cs false e h = record { text = []; rest = c ∷ cs; split = refl; is = ap not e }
run_by piece c cs true e h = record { text = c ∷ h.text; rest = h.rest; split = ap (λ (z : List ℕ). c ∷ z) h.split; is = and_from (goes_on Kernel piece c (is_feed (h.text ++ h.rest))) (is_run Kernel piece h.text h.rest) (ap (λ (z : List ℕ). goes_on Kernel piece c (is_feed z)) h.split ∙ e) h.is }

run_of : (piece : Piece) (bytes : List ℕ) → HasRun piece bytes
run_of piece [] = record { text = []; rest = []; split = refl; is = refl }
run_of piece (c ∷ cs) = run_by piece c cs (goes_on Kernel piece c (is_feed cs)) refl (run_of piece cs)

lexed : (piece : Piece) (c : ℕ) (t r cs : List ℕ) → t ++ r ≡ cs → kind_at Kernel c (is_feed cs) ≡ piece → IsWhole Kernel piece (c ∷ t) r → LacksLexeme Kernel (c ∷ cs) → ⊥
lexed piece c t r cs e k w h = h piece (c ∷ t) r (ap (λ (z : List ℕ). c ∷ z) e) (record { some = omega arith; kind = ap (λ (z : List ℕ). Some (kind_at Kernel c (is_feed z))) e ∙ ap (λ (p : Piece). Some p) k; whole = w })

run_here : (piece : Piece) (c : ℕ) (cs : List ℕ) (h : HasRun piece cs) → ((f : Bool) → goes_on Kernel piece c f ≡ true) → is_run Kernel piece (c ∷ h.text) h.rest ≡ true
run_here piece c cs h goes = and_from (goes_on Kernel piece c (is_feed (h.text ++ h.rest))) (is_run Kernel piece h.text h.rest) (goes (is_feed (h.text ++ h.rest))) h.is

-- A word that is kept, or a byte that is no sign and begins none with the next.
pub record IsKept (c : ℕ) (cs : List ℕ) : Type 0 where
  begins : begins_word c ≡ true
  kept : is_kept Kernel (c ∷ cs) ≡ true

pub record IsOdd (c : ℕ) (cs : List ℕ) : Type 0 where
  kind : kind_at Kernel c (is_feed cs) ≡ Token Sign
  single : is_single Kernel c ≡ false
  pair : lacks_pair Kernel c cs ≡ true

kept_on : (c : ℕ) (t r : List ℕ) → is_kept Kernel (c ∷ t) ≡ true → is_kept Kernel (c ∷ (t ++ r)) ≡ true
kept_on c [] r h = absurd (false≢true h)
kept_on c (a ∷ []) r h = absurd (false≢true h)
kept_on c (a ∷ b ∷ t) r h = h

stuck_word : (c : ℕ) (cs : List ℕ) (h : HasRun (Token Word) cs) (b : Bool) → is_kept Kernel (c ∷ h.text) ≡ b → kind_at Kernel c (is_feed cs) ≡ Token Word → begins_word c ≡ true → LacksLexeme Kernel (c ∷ cs) → IsKept c cs ⊎ IsOdd c cs
stuck_word c cs h true e k w l = inl (record { begins = w; kept = ap (λ (z : List ℕ). is_kept Kernel (c ∷ z)) (sym h.split) ∙ kept_on c h.text h.rest e })
stuck_word c cs h false e k w l = absurd (lexed (Token Word) c h.text h.rest cs h.split k (run_here (Token Word) c cs h (λ f. or_left (begins_word c) (is_ascii_digit c) w), e) l)

pair_of : (b : Bool) → not b ≡ false → b ≡ true
pair_of true h = refl
pair_of false h = absurd (false≢true (sym h))

stuck_sign : (c : ℕ) (cs : List ℕ) (one two : Bool) → is_single Kernel c ≡ one → lacks_pair Kernel c cs ≡ two → kind_at Kernel c (is_feed cs) ≡ Token Sign → LacksLexeme Kernel (c ∷ cs) → IsKept c cs ⊎ IsOdd c cs
stuck_sign c cs true true e f k l = absurd (lexed (Token Sign) c [] cs cs refl k (e, f) l)
stuck_sign c cs false true e f k l = inr (record { kind = k; single = e; pair = f })
stuck_sign c [] one false e f k l = absurd (false≢true (sym f))
stuck_sign c (d ∷ cs) one false e f k l = absurd (lexed (Token Sign) c (d ∷ []) cs (d ∷ cs) refl k (pair_of (is_pair Kernel c d) f) l)

word_by : (a b d e f : Bool) → (if a then Blank else if b then Token LineEnd else if d then Comment else if e then Token Word else if f then Token Number else Token Sign) ≡ Token Word → e ≡ true
word_by true b d e f h = cc
word_by false true d e f h = cc
word_by false false true e f h = cc
word_by false false false true f h = refl
word_by false false false false true h = cc
word_by false false false false false h = cc

number_by : (a b d e f : Bool) → (if a then Blank else if b then Token LineEnd else if d then Comment else if e then Token Word else if f then Token Number else Token Sign) ≡ Token Number → f ≡ true
number_by true b d e f h = cc
number_by false true d e f h = cc
number_by false false true e f h = cc
number_by false false false true f h = cc
number_by false false false false true h = refl
number_by false false false false false h = cc

comment_goes : (c : ℕ) → (c == 35) ≡ true → not (c == 10) ≡ true
comment_goes c h = let is : c ≡ 35 = grind (arith, nat_tests) in subst (λ (x : ℕ). not (x == 10) ≡ true) (sym is) refl

pub stuck_is : (c : ℕ) (cs : List ℕ) (piece : Piece) → kind_at Kernel c (is_feed cs) ≡ piece → LacksLexeme Kernel (c ∷ cs) → IsKept c cs ⊎ IsOdd c cs
stuck_is c cs Blank k l = absurd (lexed Blank c [] cs cs refl k refl l)
stuck_is c cs Comment k l = let h = run_of Comment cs in absurd (lexed Comment c h.text h.rest cs h.split k (run_here Comment c cs h (λ f. comment_goes c (comment_by (is_blank c (is_feed cs)) (c == 10) (c == 35) (begins_word c) (is_ascii_digit c) k))) l)
stuck_is c cs (Token Word) k l = let h = run_of (Token Word) cs in stuck_word c cs h (is_kept Kernel (c ∷ h.text)) refl k (word_by (is_blank c (is_feed cs)) (c == 10) (c == 35) (begins_word c) (is_ascii_digit c) k) l
stuck_is c cs (Token Number) k l = let h = run_of (Token Number) cs in absurd (lexed (Token Number) c h.text h.rest cs h.split k (run_here (Token Number) c cs h (λ f. number_by (is_blank c (is_feed cs)) (c == 10) (c == 35) (begins_word c) (is_ascii_digit c) k)) l)
stuck_is c cs (Token Sign) k l = stuck_sign c cs (is_single Kernel c) (lacks_pair Kernel c cs) refl refl k l
stuck_is c cs (Token LineEnd) k l = absurd (lexed (Token LineEnd) c [] cs cs refl k refl l)

-- ---- what stands there in a text that begins so

-- The first token begins with the bytes, which are at most two.
pub record StartsFew (q : List ℕ) (text : List Lexical) : Type 0 where
  few : length q ≤ 2
  starts : Starts q text

kept_out : (a b : ℕ) (w : List ℕ) (c : ℕ) → is_kept Kernel (c ∷ a ∷ b ∷ w) ≡ true → (c ≡ 108) × (a ≡ 112) × (b ≡ 95)
kept_out a b w c h =
    let one = and_parts (c == 108) ((a == 112) && (b == 95)) h in
    let two = and_parts (a == 112) (b == 95) one.1 in
    let x = one.0 in let y = two.0 in let z = two.1 in
    (grind (arith, nat_tests), grind (arith, nat_tests), grind (arith, nat_tests))

lp_none : (q m : List ℕ) (text : List Lexical) → list_all is_word_byte (108 ∷ 112 ∷ 95 ∷ []) ≡ true → IsTextOf (108 ∷ 112 ∷ 95 ∷ m) text → ⊥
lp_none q m text b h =
    let s = next_word 108 (112 ∷ 95 ∷ []) m text refl b h in
    let well : AreWell (word (108 ∷ 112 ∷ 95 ∷ s.others) ∷ s.more) = subst AreWell s.split (well_text (108 ∷ 112 ∷ 95 ∷ m) text h) in
    false≢true (sym (well.0.free))

few_kept : (c : ℕ) (cs q w m : List ℕ) (text : List Lexical) → IsKept c cs → cs ≡ q ++ w → IsTextOf ((c ∷ q) ++ m) text → StartsFew (c ∷ q) text
few_kept c [] q w m text k e h = absurd (false≢true k.kept)
few_kept c (a ∷ []) q w m text k e h = absurd (false≢true k.kept)
few_kept c (a ∷ b ∷ cs) [] w m text k e h =
    let o = kept_out a b cs c k.kept in
    let s = next_word c [] m text k.begins (subst (λ (x : ℕ). list_all is_word_byte (x ∷ []) ≡ true) (sym o.0) refl) h in
    record { few = omega arith; starts = record { x = word ((c ∷ []) ++ s.others); others = s.others; more = s.more; split = s.split; bytes = refl } }
few_kept c (a ∷ b ∷ cs) (x ∷ []) w m text k e h =
    let o = kept_out a b cs c k.kept in
    let same : x ≡ 112 = let first : a ≡ x = cc in sym first ∙ o.1 in
    let s = next_word c (x ∷ []) m text k.begins (subst (λ (y : ℕ). list_all is_word_byte (y ∷ x ∷ []) ≡ true) (sym o.0) (subst (λ (y : ℕ). list_all is_word_byte (108 ∷ y ∷ []) ≡ true) (sym same) refl)) h in
    record { few = omega arith; starts = record { x = word ((c ∷ x ∷ []) ++ s.others); others = s.others; more = s.more; split = s.split; bytes = refl } }
few_kept c (a ∷ b ∷ cs) (x ∷ y ∷ q) w m text k e h =
    let o = kept_out a b cs c k.kept in
    let one : x ≡ 112 = let first : a ≡ x = cc in sym first ∙ o.1 in
    let two : y ≡ 95 = let second : b ≡ y = cc in sym second ∙ o.2 in
    absurd (lp_none q (q ++ m) text refl (subst (λ (z : ℕ). IsTextOf (108 ∷ 112 ∷ z ∷ (q ++ m)) text) two (subst (λ (z : ℕ). IsTextOf (108 ∷ z ∷ y ∷ (q ++ m)) text) one (subst (λ (z : ℕ). IsTextOf (z ∷ x ∷ y ∷ (q ++ m)) text) o.0 h))))

sign_none : (c d : ℕ) (m others rest : List ℕ) → is_single Kernel c ≡ false → not (is_pair Kernel c d) ≡ true → others ++ rest ≡ d ∷ m → IsSign Kernel (c ∷ others) rest → ⊥
sign_none c d m [] rest s p e h = false≢true (sym s ∙ h.0)
sign_none c d m (x ∷ []) rest s p e h = let same : x ≡ d = cc in false≢true (ap not (sym (subst (λ (y : ℕ). is_pair Kernel c y ≡ true) same h)) ∙ p)
sign_none c d m (x ∷ y ∷ others) rest s p e h = h

same_kind : (c : ℕ) (f g b : Bool) → (c == 13) ≡ b → b ≡ false → kind_at Kernel c f ≡ Token Sign → kind_at Kernel c g ≡ Token Sign
same_kind c f g b e n h = let no : (c == 13) ≡ false = e ∙ n in rw no (rw no at h)

odd_one : (c : ℕ) (cs m : List ℕ) (text : List Lexical) (b : Bool) → (c == 13) ≡ b → IsOdd c cs → IsTextOf (c ∷ m) text → StartsFew (c ∷ []) text
odd_one c cs m text true e o h =
    let is : c ≡ 13 = grind (arith, nat_tests) in
    let s = next_return m text (subst (λ (x : ℕ). IsTextOf (x ∷ m) text) is h) in
    record { few = omega arith; starts = record { x = line_end; others = 10 ∷ []; more = s.2.more; split = s.2.split; bytes = ap (λ (x : ℕ). x ∷ 10 ∷ []) (sym is) } }
odd_one c cs m text false e o h =
    let s = next_sign c m text (same_kind c (is_feed cs) (is_feed m) (c == 13) refl e o.kind) h in
    record { few = omega arith; starts = record { x = sign (c ∷ s.others); others = s.others; more = s.more; split = s.split; bytes = refl } }

few_odd : (c : ℕ) (cs q w m : List ℕ) (text : List Lexical) → IsOdd c cs → cs ≡ q ++ w → IsTextOf ((c ∷ q) ++ m) text → StartsFew (c ∷ q) text
few_odd c cs [] w m text o e h = odd_one c cs m text (c == 13) refl o h
few_odd c cs (d ∷ q) w m text o e h =
    let kind : kind_at Kernel c (d == 10) ≡ Token Sign = ap (λ (z : List ℕ). kind_at Kernel c (is_feed z)) (sym e) ∙ o.kind in
    let pair : not (is_pair Kernel c d) ≡ true = ap (lacks_pair Kernel c) (sym e) ∙ o.pair in
    let s = next_sign c (d ∷ (q ++ m)) text kind h in
    absurd (sign_none c d (q ++ m) s.others s.rest o.single pair s.bytes s.is)

pub few_by : (c : ℕ) (cs q w m : List ℕ) (text : List Lexical) → IsKept c cs ⊎ IsOdd c cs → cs ≡ q ++ w → IsTextOf ((c ∷ q) ++ m) text → StartsFew (c ∷ q) text
few_by c cs q w m text (inl k) e h = few_kept c cs q w m text k e h
few_by c cs q w m text (inr o) e h = few_odd c cs q w m text o e h

-- ---- the fault

within_two : (c : ℕ) (cs q more : List ℕ) → cs ≡ q ++ more → length (c ∷ q) ≤ 2 → (w : List ℕ) × (c ∷ take 1 cs ≡ (c ∷ q) ++ w)
within_two c cs [] more e h = (take 1 cs, refl)
within_two c cs (x ∷ []) more e h = ([], ap (λ (z : List ℕ). c ∷ take 1 z) e)
within_two c cs (x ∷ y ∷ q) more e h = absurd (omega (arith, h))

stuck_longer : (front : List ℕ) (c : ℕ) (cs q more : List ℕ) (before : List Lexical) (count : ℕ) → IsKept c cs ⊎ IsOdd c cs → IsFrontOf front (c ∷ cs) before → cs ≡ q ++ more → length (c ∷ q) ≡ count + 1 → IsBegun before (c ∷ take 1 cs) count → BeginsFile (front ++ c ∷ q) → ⊥
stuck_longer front c cs q more before count o h e long g b =
    let r = file_rest front c cs (q ++ b.more) before b.syntax h (subst (λ (z : List ℕ). IsKernelFile z b.syntax) (append_assoc front (c ∷ q) b.more) b.is) in
    let s = few_by c cs q more b.more r.more o e r.are in
    let k = within_two c cs q more e s.few in
    too_long before (c ∷ q) k.0 count r.more long (subst (λ (z : List ℕ). IsBegun before z count) k.1 g) r.file (well_text (c ∷ (q ++ b.more)) r.more r.are) s.starts

stuck_longest : (front p : List ℕ) (c : ℕ) (cs : List ℕ) (d : ℕ) (more : List ℕ) (before : List Lexical) (count : ℕ) → IsKept c cs ⊎ IsOdd c cs → IsFrontOf front (c ∷ cs) before → p ++ d ∷ more ≡ c ∷ cs → length p ≡ count → IsBegun before (c ∷ take 1 cs) count → BeginsFile ((front ++ p) ++ d ∷ []) → ⊥
stuck_longest front [] c cs d more before count o h e long g b =
    let first : d ≡ c = cc in
    let start : BeginsFile (front ++ d ∷ []) = subst (λ (z : List ℕ). BeginsFile (z ++ d ∷ [])) (append-nil front) b in
    stuck_longer front c cs [] cs before count o h refl (omega (arith, long)) g (subst (λ (x : ℕ). BeginsFile (front ++ x ∷ [])) first start)
stuck_longest front (x ∷ p) c cs d more before count o h e long g b =
    let first : x ≡ c = cc in
    let left : p ++ d ∷ more ≡ cs = cc in
    let start : BeginsFile (front ++ x ∷ (p ++ d ∷ [])) = subst BeginsFile (append_assoc front (x ∷ p) (d ∷ [])) b in
    stuck_longer front c cs (p ++ d ∷ []) more before count o h (sym left ∙ sym (append_assoc p (d ∷ []) more)) (omega (arith, long, length-append p (d ∷ []))) g (subst (λ (y : ℕ). BeginsFile (front ++ y ∷ (p ++ d ∷ []))) first start)

stuck_feed : (c : ℕ) (cs : List ℕ) → IsKept c cs ⊎ IsOdd c cs → (c == 10) ≡ false
stuck_feed c cs (inl k) = no_feed_by Word c (is_feed cs) (c == 10) tt (word_kind c (is_feed cs) k.begins) refl
stuck_feed c cs (inr o) = no_feed_by Sign c (is_feed cs) (c == 10) tt o.kind refl

stuck_tried : (c : ℕ) (cs : List ℕ) (before : List Lexical) → IsKept c cs ⊎ IsOdd c cs → IsTried before (c ∷ take 1 cs)
stuck_tried c [] before (inl k) = absurd (false≢true k.kept)
stuck_tried c (a ∷ []) before (inl k) = absurd (false≢true k.kept)
stuck_tried c (a ∷ b ∷ cs) before (inl k) =
    let o = kept_out a b cs c k.kept in
    record {
      word = λ h. subst (λ (x : ℕ). IsWord Kernel (x ∷ a ∷ [])) (sym o.0) (subst (λ (y : ℕ). IsWord Kernel (108 ∷ y ∷ [])) (sym o.1) (record { some = omega arith; begins = refl; bytes = refl; free = refl }));
      number = λ h g. let one = number_kind c false h in let two = word_kind c false k.begins in cc;
    }
stuck_tried c cs before (inr o) = record {
  word = λ h. absurd (let one = word_kind c (is_feed cs) h in let two = o.kind in cc);
  number = λ h g. let one = number_kind c (is_feed cs) h in let two = o.kind in cc;
}

stuck_at : (bytes front : List ℕ) (c : ℕ) (cs : List ℕ) (before : List Lexical) (count line n : ℕ) → bytes ≡ front ++ c ∷ cs → IsFrontOf front (c ∷ cs) before → Begins (Spells file_text) before → IsKept c cs ⊎ IsOdd c cs → IsBegun before (c ∷ take 1 cs) count → EndsIn line n (take (length front + count) bytes) → IsNoFile bytes → IsFaultAt bytes line n
stuck_at bytes front c cs before count line n e h f o g p none =
    let text = c ∷ take 1 cs in
    let u = drop 1 cs in
    let t = take count text in
    let d = drop count text in
    let cut : text ++ u ≡ c ∷ cs = ap (λ (z : List ℕ). c ∷ z) (take-append-drop 1 cs) in
    let same : t ++ d ≡ text = take-append-drop count text in
    let all : t ++ (d ++ u) ≡ c ∷ cs = sym (append_assoc t d u) ∙ ap (λ (z : List ℕ). z ++ u) same ∙ cut in
    record {
      front = front ++ t;
      rest = d ++ u;
      text = e ∙ ap (λ (z : List ℕ). front ++ z) (sym all) ∙ sym (append_assoc front t (d ++ u));
      place = subst (EndsIn line n) (ap (take (length front + count)) (e ∙ ap (λ (z : List ℕ). front ++ z) (sym cut)) ∙ take_front front text u count g.within) p;
      begins = begins_at front c (take 1 cs) u before count (stuck_feed c cs o) (subst (λ (z : List ℕ). IsFrontOf front z before) (sym cut) h) f g;
      longest = λ x more k b. stuck_longest front t c cs x more before count o h (ap (λ (z : List ℕ). t ++ z) (sym k) ∙ all) (length-take-le count text g.within) g b;
      none = none;
    }

stuck_rest : (bytes front rest : List ℕ) (before : List Lexical) (text : List ℕ) (count line n : ℕ) → bytes ≡ front ++ rest → IsFrontOf front rest before → Begins (Spells file_text) before → LacksLexeme Kernel rest → 0 < length rest → text ≡ take 2 rest → (IsTried before text → IsBegun before text count) → EndsIn line n (take (length front + count) bytes) → IsNoFile bytes → IsFaultAt bytes line n
stuck_rest bytes front [] before text count line n e h f l some t g p none = absurd (omega (arith, some))
stuck_rest bytes front (c ∷ cs) before text count line n e h f l some t g p none =
    let o = stuck_is c cs (kind_at Kernel c (is_feed cs)) refl l in
    let own : text ≡ c ∷ take 1 cs = t in
    stuck_at bytes front c cs before count line n e h f o (subst (λ (z : List ℕ). IsBegun before z count) own (g (subst (IsTried before) (sym own) (stuck_tried c cs before o)))) p none

-- the place where no lexeme stands behind tokens that begin a file
pub stuck_fault : (bytes rest : List ℕ) (place : Place) (tokens : List declared.Token) (from : ℕ) (text : List ℕ) (count line n : ℕ) → IsReadTo Kernel bytes rest place tokens → LacksLexeme Kernel rest → 0 < length rest → Begins (Spells file_text) (lexicals bytes tokens) → text ≡ take 2 rest
    → (IsTried (lexicals bytes tokens) text → IsBegun (lexicals bytes tokens) text count) → IsNoFile bytes → from ≡ place.at → EndsIn line n (take (from + count) bytes) → IsFaultAt bytes line n
stuck_fault bytes rest place tokens from text count line n h l some f t g none at p =
    let front = text_of h.lexemes in
    let behind = read_behind Kernel bytes rest place tokens h in
    let end : from + count ≡ length front + count = omega (arith, at, behind.at) in
    stuck_rest bytes front rest (lexicals bytes tokens) text count line n (sym h.text) (read_is_front bytes front rest place tokens h h.text) f l some t g (subst (λ (m : ℕ). EndsIn line n (take m bytes)) end p) none
