-- The token at the front of bytes, by the byte that stands there.
use Rattle.std.proofs.Common.{◌≡◌, ◌<◌, ℕ, true, false, not, ◌==◌, List, [], ◌∷◌, ◌++◌, length, sym, ap, ◌∙◌, refl, subst, append_assoc, length-append, arith, inl, inr, ◌⊎◌}
use Rattle.std.specs.Char.{is_ascii_digit}
use Rattle.std.specs.List.{list_all}
use Rattle.std.proofs.lemmas.List.{append-nil}
use Rattle.std.proofs.lemmas.Bool.{false≢true, and_parts, both_ways, not-true, not-false}
use Rattle.std.proofs.lemmas.Bool.Decides.{nat_tests}
use Rattle.text_reader.specs.declared.form.Form.TheVariants.{Kernel}
use Rattle.text_reader.specs.declared.token.Class.TheVariants.{Word, Number, Sign, LineEnd}
use Rattle.text_reader.specs.declared.lexeme.Piece.{Piece}
use Rattle.text_reader.specs.declared.lexeme.Piece.TheVariants.{Blank, Comment, Token}
use Rattle.text_reader.specs.Bytes.{is_feed, begins_word, is_word_byte, goes_on, kind_at}
use Rattle.text_reader.specs.Signs.{is_pair}
use Rattle.text_reader.specs.Lexemes.{Lexed, ends, is_run, lacks_pair, IsSign, IsLexeme, text_of, AreLexemes}
use Rattle.text_reader.proofs.ByteLaws.{goes_plain}
use Rattle.text_reader.proofs.LinePlaces.{line_end_is}
use Rattle.kernel_grammar.specs.Lexicals.{Lexical, word, number, sign, line_end}
use Rattle.kernel_syntax.specs.TokenTexts.{IsTextOf, lexical_of, lexicals_of}
use Rattle.kernel_syntax.proofs.TokenTexts.{is_open, open_after, end_of, text_tokens, text_out, text_in}
use Rattle.kernel_syntax.proofs.Gaps.{return_is}
use Rattle.kernel_syntax.proofs.WellSpelled.{word_kind, number_kind, pair_kind}

-- A text begins with a lexeme of the piece.
pub record FirstOf (piece : Piece) (c : ℕ) (m : List ℕ) (text : List Lexical) : Type 0 where
  pub more : List ℕ
  pub rest : List ℕ
  pub split : more ++ rest ≡ m
  pub is : IsLexeme Kernel piece (c ∷ more) rest
  pub after : List Lexed
  pub whole : text_of after ≡ rest
  pub are : AreLexemes Kernel after []
  pub listed : text ≡ lexical_of piece (c ∷ more) ++ (lexicals_of after ++ end_of (open_after (is_open piece) after))

first_lexed : (c : ℕ) (m : List ℕ) (text : List Lexical) (piece : Piece) (bytes : List ℕ) (xs : List Lexed) → bytes ++ text_of xs ≡ c ∷ m → IsLexeme Kernel piece bytes (text_of xs ++ []) → AreLexemes Kernel xs []
    → text ≡ lexical_of piece bytes ++ (lexicals_of xs ++ end_of (open_after (is_open piece) xs)) → FirstOf (kind_at Kernel c (is_feed m)) c m text
first_lexed c m text piece [] xs e h k l = absurd (let some : 0 < 0 = h.some in omega arith)
first_lexed c m text piece (d ∷ more) xs e h k l =
    let first : d ≡ c = cc in
    let left : more ++ text_of xs ≡ m = cc in
    let kind = h.kind in
    let here : kind_at Kernel d (is_feed (more ++ (text_of xs ++ []))) ≡ piece = cc in
    let feed : is_feed (more ++ (text_of xs ++ [])) ≡ is_feed m = ap (λ (z : List ℕ). is_feed (more ++ z)) (append-nil (text_of xs)) ∙ ap is_feed left in
    let is : piece ≡ kind_at Kernel d (is_feed m) = sym here ∙ ap (kind_at Kernel d) feed in
    let found : FirstOf piece d m text = record {
      more = more;
      rest = text_of xs;
      split = left;
      is = subst (λ (z : List ℕ). IsLexeme Kernel piece (d ∷ more) z) (append-nil (text_of xs)) h;
      after = xs;
      whole = refl;
      are = k;
      listed = l;
    } in
    subst (λ (x : ℕ). FirstOf (kind_at Kernel x (is_feed m)) x m text) first (subst (λ (p : Piece). FirstOf p d m text) is found)

first_by : (c : ℕ) (m : List ℕ) (text : List Lexical) (xs : List Lexed) → text_of xs ≡ c ∷ m → AreLexemes Kernel xs [] → text ≡ text_tokens xs → FirstOf (kind_at Kernel c (is_feed m)) c m text
first_by c m text [] e h l = absurd (cc)
first_by c m text (x ∷ xs) e h l = first_lexed c m text x.piece x.text xs e h.0 h.1 (l ∙ append_assoc (lexical_of x.piece x.text) (lexicals_of xs) (end_of (open_after (is_open x.piece) xs)))

pub first_of : (c : ℕ) (m : List ℕ) (text : List Lexical) → IsTextOf (c ∷ m) text → FirstOf (kind_at Kernel c (is_feed m)) c m text
first_of c m text h = let k = text_out (c ∷ m) text h in first_by c m text k.lexemes k.whole k.are k.listed

first_kind : (piece : Piece) (c : ℕ) (m : List ℕ) (text : List Lexical) → kind_at Kernel c (is_feed m) ≡ piece → IsTextOf (c ∷ m) text → FirstOf piece c m text
first_kind piece c m text e h = subst (λ (p : Piece). FirstOf p c m text) e (first_of c m text h)

-- ---- runs

-- a run goes on with all bytes that it can go on with
run_begins : (piece : Piece) (q m bytes rest : List ℕ) → list_all (λ c. goes_on Kernel piece c false) q ≡ true → is_run Kernel piece bytes rest ≡ true → bytes ++ rest ≡ q ++ m → (w : List ℕ) × (bytes ≡ q ++ w)
run_begins piece [] m bytes rest h k e = (bytes, refl)
run_begins piece (c ∷ q) m [] rest h k e =
    let here = (and_parts (goes_on Kernel piece c false) (list_all (λ d. goes_on Kernel piece d false) q) h).0 in
    let ended : not (goes_on Kernel piece c (is_feed (q ++ m))) ≡ true = ap (ends Kernel piece) (sym e) ∙ k in
    absurd (both_ways (goes_on Kernel piece c (is_feed (q ++ m))) (not-true (goes_on Kernel piece c (is_feed (q ++ m))) ended) (goes_plain Kernel piece c (is_feed (q ++ m)) false refl ∙ here))
run_begins piece (c ∷ q) m (d ∷ bytes) rest h k e =
    let first : d ≡ c = cc in
    let left : bytes ++ rest ≡ q ++ m = cc in
    let below = run_begins piece q m bytes rest (and_parts (goes_on Kernel piece c false) (list_all (λ x. goes_on Kernel piece x false) q) h).1 (and_parts (goes_on Kernel piece d (is_feed (bytes ++ rest))) (is_run Kernel piece bytes rest) k).1 left in
    (below.0, ap (λ (x : ℕ). x ∷ bytes) first ∙ ap (λ (z : List ℕ). c ∷ z) below.1)

-- A text begins with a token that has these bytes at its front.
pub record Opens (token : List ℕ → Lexical) (front : List ℕ) (text : List Lexical) : Type 0 where
  pub others : List ℕ
  pub more : List Lexical
  pub split : text ≡ token (front ++ others) ∷ more

-- a word
pub next_word : (c : ℕ) (q m : List ℕ) (text : List Lexical) → begins_word c ≡ true → list_all is_word_byte (c ∷ q) ≡ true → IsTextOf ((c ∷ q) ++ m) text → Opens word (c ∷ q) text
next_word c q m text b h k =
    let f = first_kind (Token Word) c (q ++ m) text (word_kind c (is_feed (q ++ m)) b) k in
    let w = run_begins (Token Word) (c ∷ q) m (c ∷ f.more) f.rest h f.is.whole.0 (ap (λ (z : List ℕ). c ∷ z) f.split) in
    record { others = w.0; more = lexicals_of f.after ++ end_of (open_after true f.after); split = f.listed ∙ ap (λ (z : List ℕ). word z ∷ (lexicals_of f.after ++ end_of (open_after true f.after))) w.1 }

-- a number
pub next_number : (c : ℕ) (q m : List ℕ) (text : List Lexical) → is_ascii_digit c ≡ true → list_all is_ascii_digit (c ∷ q) ≡ true → IsTextOf ((c ∷ q) ++ m) text → Opens number (c ∷ q) text
next_number c q m text b h k =
    let f = first_kind (Token Number) c (q ++ m) text (number_kind c (is_feed (q ++ m)) b) k in
    let w = run_begins (Token Number) (c ∷ q) m (c ∷ f.more) f.rest h f.is.whole (ap (λ (z : List ℕ). c ∷ z) f.split) in
    record { others = w.0; more = lexicals_of f.after ++ end_of (open_after true f.after); split = f.listed ∙ ap (λ (z : List ℕ). number z ∷ (lexicals_of f.after ++ end_of (open_after true f.after))) w.1 }

-- A text begins with the longest sign.
pub record OpensSign (c : ℕ) (m : List ℕ) (text : List Lexical) : Type 0 where
  pub others : List ℕ
  pub rest : List ℕ
  pub bytes : others ++ rest ≡ m
  pub is : IsSign Kernel (c ∷ others) rest
  pub more : List Lexical
  pub split : text ≡ sign (c ∷ others) ∷ more

-- a sign
pub next_sign : (c : ℕ) (m : List ℕ) (text : List Lexical) → kind_at Kernel c (is_feed m) ≡ Token Sign → IsTextOf (c ∷ m) text → OpensSign c m text
next_sign c m text e k =
    let f = first_kind (Token Sign) c m text e k in
    record { others = f.more; rest = f.rest; bytes = f.split; is = f.is.whole; more = lexicals_of f.after ++ end_of (open_after true f.after); split = f.listed }

pair_by : (c d : ℕ) (m others rest : List ℕ) → is_pair Kernel c d ≡ true → others ++ rest ≡ d ∷ m → IsSign Kernel (c ∷ others) rest → others ≡ d ∷ []
pair_by c d m [] rest p e h = absurd (both_ways (is_pair Kernel c d) (not-true (is_pair Kernel c d) (ap (lacks_pair Kernel c) (sym e) ∙ h.1)) p)
pair_by c d m (x ∷ []) rest p e h = let same : x ≡ d = cc in ap (λ (y : ℕ). y ∷ []) same
pair_by c d m (x ∷ y ∷ others) rest p e h = absurd h

-- a sign of two bytes
pub next_pair : (c d : ℕ) (m : List ℕ) (text : List Lexical) → is_pair Kernel c d ≡ true → IsTextOf (c ∷ d ∷ m) text → (more : List Lexical) × (text ≡ sign (c ∷ d ∷ []) ∷ more)
next_pair c d m text p k =
    let f = next_sign c (d ∷ m) text (pair_kind c d (d == 10) p) k in
    (f.more, f.split ∙ ap (λ (z : List ℕ). sign (c ∷ z) ∷ f.more) (pair_by c d m f.others f.rest p f.bytes f.is))

-- ---- line ends

-- A text begins with a line end.
pub record OpensLine (rest : List ℕ) (text : List Lexical) : Type 0 where
  pub more : List Lexical
  pub are : IsTextOf rest more
  pub split : text ≡ line_end ∷ more

-- a line feed
pub next_line : (m : List ℕ) (text : List Lexical) → IsTextOf (10 ∷ m) text → OpensLine m text
next_line m text k =
    let f = first_kind (Token LineEnd) 10 m text refl k in
    let is = line_end_is Kernel (10 ∷ f.more) f.rest f.is in
    let none : f.more ≡ [] = cc in
    let left : text_of f.after ≡ m = f.whole ∙ ap (λ (z : List ℕ). z ++ f.rest) (sym none) ∙ f.split in
    record { more = text_tokens f.after; are = text_in m (text_tokens f.after) (record { lexemes = f.after; whole = left; are = f.are; listed = refl }); split = f.listed }

-- ---- blanks and comments

some_after : (rest : List ℕ) (y : Lexed) (ys : List Lexed) → text_of (y ∷ ys) ≡ rest → AreLexemes Kernel (y ∷ ys) [] → 0 < length rest
some_after rest y ys e k = omega (arith, ap length e, length-append y.text (text_of ys), k.0.some)

-- A rest has these tokens, or nothing stands there and they are the line's end.
abbrev pub IsLeft : List ℕ → List Lexical → Type 0
IsLeft rest text = ((0 < length rest) × IsTextOf rest text) ⊎ ((rest ≡ []) × (text ≡ line_end ∷ []))

left_by : (rest : List ℕ) (text : List Lexical) (after : List Lexed) → text_of after ≡ rest → AreLexemes Kernel after [] → text ≡ lexicals_of after ++ end_of (open_after true after) → IsLeft rest text
left_by rest text [] e k l = inr (sym e, l)
left_by rest text (y ∷ ys) e k l = inl (some_after rest y ys e k, text_in rest text (record { lexemes = y ∷ ys; whole = e; are = k; listed = l }))

one_byte : (c : ℕ) (more : List ℕ) → length (c ∷ more) ≡ 1 → more ≡ []
one_byte c [] h = refl
one_byte c (d ∷ more) h = absurd (omega arith)

-- a space, a tab, or a carriage return before a line feed
pub next_blank : (c : ℕ) (m : List ℕ) (text : List Lexical) → kind_at Kernel c (is_feed m) ≡ Blank → IsTextOf (c ∷ m) text → IsLeft m text
next_blank c m text e k =
    let f = first_kind Blank c m text e k in
    let none = one_byte c f.more f.is.whole in
    left_by m text f.after (f.whole ∙ ap (λ (z : List ℕ). z ++ f.rest) (sym none) ∙ f.split) f.are f.listed

feed_first : (m : List ℕ) (text : List Lexical) → is_feed m ≡ true → IsLeft m text → (rest : List ℕ) × (m ≡ 10 ∷ rest) × OpensLine rest text
feed_first [] text e h = absurd (false≢true e)
feed_first (d ∷ m) text e (inl h) = let same : d ≡ 10 = grind (arith, nat_tests) in (m, ap (λ (x : ℕ). x ∷ m) same, next_line m text (subst (λ (x : ℕ). IsTextOf (x ∷ m) text) same h.1))
feed_first (d ∷ m) text e (inr h) = absurd (let none = h.0 in cc)

-- a carriage return
pub next_return : (m : List ℕ) (text : List Lexical) → IsTextOf (13 ∷ m) text → (rest : List ℕ) × (m ≡ 10 ∷ rest) × OpensLine rest text
next_return m text k =
    let f = first_of 13 m text k in
    let r = return_is (kind_at Kernel 13 (is_feed m)) 13 f.more f.rest refl f.is in
    feed_first m text (ap is_feed (sym f.split) ∙ r.1) (next_blank 13 m text r.0 k)

run_end : (piece : Piece) (bytes rest : List ℕ) → is_run Kernel piece bytes rest ≡ true → ends Kernel piece rest ≡ true
run_end piece [] rest h = h
run_end piece (c ∷ bytes) rest h = run_end piece bytes rest (and_parts (goes_on Kernel piece c (is_feed (bytes ++ rest))) (is_run Kernel piece bytes rest) h).1

ended_comment : (rest : List ℕ) (text : List Lexical) → ends Kernel Comment rest ≡ true → IsLeft rest text → (more : List Lexical) × (text ≡ line_end ∷ more)
ended_comment rest text e (inr h) = ([], h.1)
ended_comment [] text e (inl h) = absurd (let some = h.0 in omega arith)
ended_comment (d ∷ rest) text e (inl h) =
    let test : (d == 10) ≡ true = not-false (d == 10) (not-true (not (d == 10)) e) in
    let same : d ≡ 10 = grind (arith, nat_tests) in
    let line = next_line rest text (subst (λ (x : ℕ). IsTextOf (x ∷ rest) text) same h.1) in
    (line.more, line.split)

-- a comment
pub next_comment : (m : List ℕ) (text : List Lexical) → IsTextOf (35 ∷ m) text → (more : List Lexical) × (text ≡ line_end ∷ more)
next_comment m text k =
    let f = first_kind Comment 35 m text refl k in
    ended_comment f.rest text (run_end Comment (35 ∷ f.more) f.rest f.is.whole) (left_by f.rest text f.after f.whole f.are f.listed)
