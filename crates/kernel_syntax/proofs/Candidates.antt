-- Which tokens go on behind others, and how many bytes of a text begin such a one.
use Rattle.std.proofs.Common.{◌≡◌, ◌⊎◌, inl, inr, ℕ, suc, ◌+◌, ◌≤◌, ◌<◌, Bool, true, false, not, ◌&&◌, ◌||◌, ◌==◌, if◌then◌else◌, List, [], ◌∷◌, ◌++◌, map, length, take, drop, get_or, ap, sym, refl, ◌∙◌, subst, append_assoc, length-append, Result, Ok, Err, IfOk, is_some, codes, bytes_eq, nat_lt, MatchBool, arith}
use Rattle.std.proofs.lemmas.List.{append-nil, length-map, length-take-le, take_all, take-map, take-append-le, drop_all, map_push, take_more}
use Rattle.std.proofs.lemmas.Bool.Decides.{nat_tests}
use Rattle.kernel_grammar.specs.Lexicals.{Lexical, word, number, sign, line_end, key}
use Rattle.kernel_grammar.specs.declared.file.KernelFile.{KernelFile}
use Rattle.kernel_grammar.specs.Files.{file_of, file_text}
use Rattle.kernel_expressions.specs.Reads.{IsItem}
use Rattle.kernel_expressions.specs.Settled.{Begins, Halts, Spells}
use Rattle.kernel_expressions.specs.declared.stop.Stop.{Stop}
use Rattle.kernel_expressions.specs.declared.stop.Stop.TheVariants.{Refused}
use Rattle.kernel_expressions.specs.declared.sign.Sign.{Sign}
use Rattle.kernel_expressions.specs.declared.key.Key as declared
use Rattle.kernel_expressions.specs.Signs.{sign_text}
use Rattle.kernel_expressions.specs.Keys.{key_text}
use Rattle.wrap_words.specs.declared.kind.Kind.{Kind}
use Rattle.wrap_words.specs.declared.kind.Kind.TheVariants.{I32, I64, U32, U64}
use Rattle.kind_faults.specs.Words.{kind_word}
use Rattle.std.specs.List.{list_all, list_any}
use Rattle.std.specs.Char.{is_ascii_digit}
use Rattle.std.proofs.lemmas.Bool.{and_parts}
use Rattle.std.proofs.lemmas.List.Folds.{list_all-append}
use Rattle.std.proofs.lemmas.Slice.Eq.{bytes_eq-Decides}
use Rattle.text_reader.specs.declared.form.Form.TheVariants.{Kernel}
use Rattle.text_reader.specs.Bytes.{begins_word}
use Rattle.text_reader.specs.Lexemes.{is_kept}
use Rattle.text_reader.specs.Signs.{singles, pairs, is_the_pair}
use Rattle.text_reader.specs.Spelling.{is_of_word, is_sign, IsWord, IsDigits}
use Rattle.kernel_grammar.specs.Words.{keywords, is_reserved, kind_named}
use Rattle.kernel_syntax.specs.FileParts.{RefusesFile}
use Rattle.kernel_syntax.proofs.Alike.{option_words, is_free, is_number}
use Rattle.kernel_syntax.proofs.Renaming.{by_cases, begins_one, found_any, is_whole, name_begins, number_begins, one_of_three, whole_word}
use Rattle.kernel_expressions.specs.declared.lexeme.Lexeme.{Lexeme}
use Rattle.kernel_expressions.specs.Texts.{text_of, texts}
use Rattle.kernel_syntax.specs.Places.{common, spelled, GoesOn, IsBegun, IsWritten}
use Rattle.kernel_syntax.specs.Candidates.{known, kinds_known, others_known, signs_known, starts, Among, IsCommon, IsLonger, IsTried, TakesName}

-- ---- whether a token goes on

-- the tokens are a file
pub file_goes : {S : Type 0} {file : KernelFile} (front : List Lexical) (x : Lexical) {all : List Lexical} → all ≡ front ++ x ∷ [] → IsItem S file_text file_of file all → GoesOn front x
file_goes front x e h = record { more = []; is = record { tree = h.tree; spelled = h.spelled ∙ (e ∙ sym (append-nil (front ++ x ∷ []))) } }

-- the tokens begin a file
pub refused_goes : (front : List Lexical) (x : Lexical) {all : List Lexical} {last : ℕ} → all ≡ front ++ x ∷ [] → RefusesFile all last → length front < last → GoesOn front x
refused_goes front x {all} {last} e h past = subst (λ xs. Begins (Spells file_text) xs) (take_all last all (omega (arith, ap length e, length-append front (x ∷ []), past)) ∙ e) h.begun

-- no list that begins with the tokens is a file
pub refused_stays : (front : List Lexical) (x : Lexical) {all : List Lexical} {last : ℕ} → all ≡ front ++ x ∷ [] → RefusesFile all last → last ≤ length front → GoesOn front x → ⊥
refused_stays front x {all} {last} e h within g = h.none ((front ++ x ∷ []) ++ g.more)
    (ap (λ xs. take (last + 1) (xs ++ g.more)) (sym e) ∙ take-append-le (last + 1) all g.more (omega (arith, ap length e, length-append front (x ∷ []), within))) g.is

-- the first so many tokens, and this one
pub gathered : (lexemes : List Lexeme) (next : Lexeme) {items pushed now : List Lexeme} {count at : ℕ} → items ≡ take count lexemes → count ≤ at → (length lexemes ≤ count) ⊎ (at ≤ count) → pushed ≡ items ++ next ∷ [] → now ≡ pushed →
    texts now ≡ take at (texts lexemes) ++ text_of next ∷ []
gathered lexemes next {items} {pushed} {now} {count} {at} e le past k f = ap texts (f ∙ (k ∙ ap (λ xs. xs ++ next ∷ []) (e ∙ whole past))) ∙ (map_push text_of (take at lexemes) next ∙ ap (λ xs. xs ++ text_of next ∷ []) (sym (take-map text_of at lexemes))) where
  whole : (length lexemes ≤ count) ⊎ (at ≤ count) → take count lexemes ≡ take at lexemes
  whole (inl l) = take_all count lexemes l ∙ sym (take_all at lexemes (omega (arith, l, le)))
  whole (inr l) = ap (λ n. take n lexemes) (omega (arith, l, le))

pub front_length : (at : ℕ) (lexemes : List Lexeme) → at ≤ length (texts lexemes) → length (take at (texts lexemes)) ≡ at
front_length at lexemes h = length-take-le at (texts lexemes) h

-- whether it goes on is known by the place of the refused token
pub refused_tells : (front : List Lexical) (x : Lexical) {all : List Lexical} {at last : ℕ} {s : Stop} → all ≡ front ++ x ∷ [] → length front ≡ at → s ≡ Refused last → Halts (RefusesFile all) s → MatchBool (nat_lt at last) (GoesOn front x) (GoesOn front x → ⊥)
refused_tells front x {all} {at} {last} e n is halts = let h : RefusesFile all last = subst (λ t. Halts (RefusesFile all) t) is halts in by_cases {C = MatchBool (nat_lt at last) (GoesOn front x) (GoesOn front x → ⊥)} (nat_lt at last)
    (λ k. subst (λ b. MatchBool b (GoesOn front x) (GoesOn front x → ⊥)) (sym k) (refused_goes front x e h (grind (arith, nat_tests, k, n))))
    (λ k. subst (λ b. MatchBool b (GoesOn front x) (GoesOn front x → ⊥)) (sym k) (refused_stays front x e h (grind (arith, nat_tests, k, n))))

-- ---- common fronts

common_none : (xs : List ℕ) → common xs [] ≡ 0
common_none [] = refl
common_none (x ∷ xs) = refl

-- the other text is at its end
pub common_ended : (xs ys : List ℕ) {count total : ℕ} → length ys ≤ count → count + common (drop count xs) (drop count ys) ≡ total → count ≡ total
common_ended xs ys {count} {total} l e = let none = ap (λ zs. common (drop count xs) zs) (drop_all count ys l) ∙ common_none (drop count xs) in omega (arith, none, e)

pub common_within : (xs ys : List ℕ) → common xs ys ≤ length xs
common_within [] ys = omega arith
common_within (x ∷ xs) [] = omega arith
common_within (x ∷ xs) (y ∷ ys) = go (x == y) (common_within xs ys) where
  go : (b : Bool) → common xs ys ≤ length xs → (if b then 1 + common xs ys else 0) ≤ length (x ∷ xs)
  go true r = omega (arith, r)
  go false r = omega arith

-- the other text begins with what is common
common_begins : (xs ys : List ℕ) → (others : List ℕ) × (ys ≡ take (common xs ys) xs ++ others)
common_begins [] ys = (ys, refl)
common_begins (x ∷ xs) [] = ([], refl)
common_begins (x ∷ xs) (y ∷ ys) = go (x == y) refl (common_begins xs ys) where
  go : (b : Bool) → (x == y) ≡ b → (others : List ℕ) × (ys ≡ take (common xs ys) xs ++ others) → (others : List ℕ) × (y ∷ ys ≡ take (if b then 1 + common xs ys else 0) (x ∷ xs) ++ others)
  go true e r = let same : x ≡ y = grind (arith, nat_tests, e) in let next : suc (common xs ys) ≡ 1 + common xs ys = omega arith in
      (r.0, ap (λ zs. y ∷ zs) r.1 ∙ (ap (λ z. z ∷ take (common xs ys) xs ++ r.0) (sym same) ∙ ap (λ n. take n (x ∷ xs) ++ r.0) next))
  go false e r = (y ∷ ys, refl)

-- texts have nothing in common if only one begins with such a byte
apart : (f : ℕ → Bool) (xs ys : List ℕ) → starts f xs ≡ false → starts f ys ≡ true → common xs ys ≡ 0
apart f [] ys h k = refl
apart f (x ∷ xs) [] h k = refl
apart f (x ∷ xs) (y ∷ ys) h k = go (x == y) refl where
  go : (b : Bool) → (x == y) ≡ b → (if b then 1 + common xs ys else 0) ≡ 0
  go true e = let same : x ≡ y = grind (arith, nat_tests, e) in let bad : true ≡ false = sym k ∙ (ap f (sym same) ∙ h) in absurd (cc)
  go false e = refl

-- ---- the greatest of some numbers

among_left : (x : Lexical) (xs ys : List Lexical) → Among x xs → Among x (xs ++ ys)
among_left x [] ys h = absurd h
among_left x (z ∷ xs) ys (inl e) = inl e
among_left x (z ∷ xs) ys (inr h) = inr (among_left x xs ys h)

among_right : (x : Lexical) (xs ys : List Lexical) → Among x ys → Among x (xs ++ ys)
among_right x [] ys h = h
among_right x (z ∷ xs) ys h = inr (among_right x xs ys h)

among_either : (x : Lexical) (xs ys : List Lexical) → Among x (xs ++ ys) → Among x xs ⊎ Among x ys
among_either x [] ys h = inr h
among_either x (z ∷ xs) ys (inl e) = inl (inl e)
among_either x (z ∷ xs) ys (inr h) = go (among_either x xs ys h) where
  go : Among x xs ⊎ Among x ys → Among x (z ∷ xs) ⊎ Among x ys
  go (inl k) = inl (inr k)
  go (inr k) = inr k

pub longer_none : {front : List Lexical} {text : List ℕ} (most : ℕ) → IsLonger front text [] most most
longer_none most = record { kept = omega arith; longest = λ x h g. absurd h; is = inl refl }

longer_both : {front : List Lexical} {text : List ℕ} {xs ys : List Lexical} {a b c : ℕ} → IsLonger front text xs a b → IsLonger front text ys b c → IsLonger front text (xs ++ ys) a c
longer_both {front} {text} {xs} {ys} {a} {b} {c} h k = record { kept = omega (arith, h.kept, k.kept); longest = λ x m g. upper x (among_either x xs ys m) g; is = from k.is h.is } where
  upper : (x : Lexical) → Among x xs ⊎ Among x ys → GoesOn front x → common text (spelled x) ≤ c
  upper x (inl m) g = omega (arith, h.longest x m g, k.kept)
  upper x (inr m) g = k.longest x m g

  from : (c ≡ b) ⊎ IsCommon front text ys c → (b ≡ a) ⊎ IsCommon front text xs b → (c ≡ a) ⊎ IsCommon front text (xs ++ ys) c
  from (inl e) (inl f) = inl (e ∙ f)
  from (inl e) (inr f) = inr (record { x = f.x; among = among_left f.x xs ys f.among; goes = f.goes; is = e ∙ f.is })
  from (inr f) q = inr (record { x = f.x; among = among_right f.x xs ys f.among; goes = f.goes; is = f.is })

-- no more is common than before
pub longer_same : {front : List Lexical} {text : List ℕ} (x : Lexical) {most count : ℕ} → count ≡ common text (spelled x) → count ≤ most → IsLonger front text (x ∷ []) most most
longer_same {front} {text} x {most} {count} e le = record { kept = omega arith; longest = λ y m g. upper y m; is = inl refl } where
  upper : (y : Lexical) → Among y (x ∷ []) → common text (spelled y) ≤ most
  upper y (inl f) = omega (arith, ap (λ z. common text (spelled z)) f, e, le)
  upper y (inr m) = absurd m

-- more is common, if the token goes on
pub longer_more : {front : List Lexical} {text : List ℕ} (x : Lexical) {most count : ℕ} → count ≡ common text (spelled x) → most < count → GoesOn front x → IsLonger front text (x ∷ []) most count
longer_more {front} {text} x {most} {count} e lt g = record { kept = omega (arith, lt); longest = λ y m k. upper y m; is = inr (record { x = x; among = inl refl; goes = g; is = e }) } where
  upper : (y : Lexical) → Among y (x ∷ []) → common text (spelled y) ≤ count
  upper y (inl f) = omega (arith, ap (λ z. common text (spelled z)) f, e)
  upper y (inr m) = absurd m

-- the token does not go on
pub longer_not : {front : List Lexical} {text : List ℕ} (x : Lexical) {most : ℕ} → (GoesOn front x → ⊥) → IsLonger front text (x ∷ []) most most
longer_not {front} {text} x {most} none = record { kept = omega arith; longest = λ y m g. upper y m g; is = inl refl } where
  upper : (y : Lexical) → Among y (x ∷ []) → GoesOn front y → common text (spelled y) ≤ most
  upper y (inl f) g = absurd (none (subst (λ z. GoesOn front z) f g))
  upper y (inr m) g = absurd m

-- ---- the tokens that are known

abbrev pub sign_token : Sign → Lexical
sign_token s = sign (sign_text s)

abbrev pub key_token : declared.Key → Lexical
key_token k = word (key_text k)

abbrev pub kind_token : Kind → Lexical
kind_token k = word (kind_word k)

-- one more of a list is asked
pub longer_next : {front : List Lexical} {text : List ℕ} {X : Type 0} (f : X → Lexical) (before : List Lexical) (xs : List X) (i : ℕ) (x d : X) {a b c : ℕ} → i < length xs → x ≡ get_or xs i d →
    IsLonger front text (before ++ map f (take i xs)) a b → IsLonger front text (f x ∷ []) b c → IsLonger front text (before ++ map f (take (i + 1) xs)) a c
longer_next {front} {text} {X} f before xs i x d {a} {b} {c} lt e h k = subst (λ ys. IsLonger front text ys a c)
    (append_assoc before (map f (take i xs)) (f x ∷ []) ∙ ap (λ ys. before ++ ys) (sym (map_push f (take i xs) x) ∙ ap (map f) (ap (λ y. take i xs ++ y ∷ []) e ∙ sym (take_more xs i d lt))))
    (longer_both h k)

-- all of a list are asked
pub longer_last : {front : List Lexical} {text : List ℕ} {X : Type 0} (f : X → Lexical) (before : List Lexical) (xs : List X) (i : ℕ) {a b : ℕ} → length xs ≤ i → IsLonger front text (before ++ map f (take i xs)) a b → IsLonger front text (before ++ map f xs) a b
longer_last {front} {text} {X} f before xs i {a} {b} le h = subst (λ ys. IsLonger front text (before ++ map f ys) a b) (take_all i xs le) h

-- the others are these
pub others_in : {front : List Lexical} {text : List ℕ} (before : List Lexical) (xs : List Lexeme) {i a b : ℕ} → texts xs ≡ others_known → 5 ≤ i → IsLonger front text (before ++ map text_of (take i xs)) a b → IsLonger front text (before ++ others_known) a b
others_in {front} {text} before xs {i} {a} {b} e le h = subst (λ ys. IsLonger front text (before ++ ys) a b) e (longer_last text_of before xs i (omega (arith, le, sym (length-map xs text_of), ap length e)) h)

pub others_five : (xs : List Lexeme) → texts xs ≡ others_known → length xs ≡ 5
others_five xs e = omega (arith, sym (length-map xs text_of), ap length e)

-- ---- which known token one is

among_any : {X : Type 0} (f : X → Lexical) (p : X → Bool) (y : Lexical) (xs : List X) → ((x : X) → p x ≡ true → y ≡ f x) → list_any p xs ≡ true → Among y (map f xs)
among_any {X} f p y [] h k = absurd (cc)
among_any {X} f p y (x ∷ xs) h k = by_cases {C = Among y (map f (x ∷ xs))} (p x) (λ e. inl (h x e)) (λ e. inr (among_any f p y xs h (sym (ap (λ b. b || list_any p xs) e) ∙ k)))

word_among : (w : List ℕ) (words : List (List ℕ)) → list_any (bytes_eq w) words ≡ true → Among (word w) (map word words)
word_among w words h = among_any word (bytes_eq w) (word w) words (λ v e. ap word ((bytes_eq-Decides w v).0 e)) h

pair_is : (c d : ℕ) (p : List ℕ) → is_the_pair c d p ≡ true → sign (c ∷ d ∷ []) ≡ sign p
pair_is c d [] h = absurd (cc)
pair_is c d (a ∷ []) h = absurd (cc)
pair_is c d (a ∷ b ∷ []) h = let k = and_parts (c == a) (d == b) h in let e : c ≡ a = grind (arith, nat_tests, k.0) in let f : d ≡ b = grind (arith, nat_tests, k.1) in ap (λ x. sign (x ∷ d ∷ [])) e ∙ ap (λ x. sign (a ∷ x ∷ [])) f
pair_is c d (a ∷ b ∷ e ∷ es) h = absurd (cc)

single_is : (c d : ℕ) → (c == d) ≡ true → sign (c ∷ []) ≡ sign (d ∷ [])
single_is c d h = let e : c ≡ d = grind (arith, nat_tests, h) in ap (λ x. sign (x ∷ [])) e

sign_among : (s : List ℕ) → is_sign Kernel s ≡ true → Among (sign s) signs_known
sign_among [] h = absurd (cc)
sign_among (c ∷ []) h = among_left (sign (c ∷ [])) (map (λ d. sign (d ∷ [])) (singles Kernel)) (map sign (pairs Kernel)) (among_any (λ d. sign (d ∷ [])) (λ d. c == d) (sign (c ∷ [])) (singles Kernel) (single_is c) h)
sign_among (c ∷ d ∷ []) h = among_right (sign (c ∷ d ∷ [])) (map (λ e. sign (e ∷ [])) (singles Kernel)) (map sign (pairs Kernel)) (among_any sign (is_the_pair c d) (sign (c ∷ d ∷ [])) (pairs Kernel) (pair_is c d) h)
sign_among (c ∷ d ∷ e ∷ es) h = absurd (cc)

-- a token that is no name and no number is known
known_sign : (x : Lexical) → Among x signs_known → Among x known
known_sign x h = among_left x ((signs_known ++ map word keywords) ++ kinds_known) others_known (among_left x (signs_known ++ map word keywords) kinds_known (among_left x signs_known (map word keywords) h))

known_other : (x : Lexical) → Among x others_known → Among x known
known_other x h = among_right x ((signs_known ++ map word keywords) ++ kinds_known) others_known h

known_word : (w : List ℕ) → is_free (word w) ≡ false → Among (word w) known
known_word w e = one_of_three {C = Among (word w) known} (list_any (bytes_eq w) keywords) (is_some (kind_named w)) (list_any (bytes_eq w) option_words) e
    (λ k. among_left (word w) ((signs_known ++ map word keywords) ++ kinds_known) others_known (among_left (word w) (signs_known ++ map word keywords) kinds_known (among_right (word w) signs_known (map word keywords) (word_among w keywords k))))
    (λ k. among_left (word w) ((signs_known ++ map word keywords) ++ kinds_known) others_known (among_right (word w) (signs_known ++ map word keywords) kinds_known (word_among w (map kind_word (I32 ∷ I64 ∷ U32 ∷ U64 ∷ [])) (sym (found_any kind_word w (I32 ∷ I64 ∷ U32 ∷ U64 ∷ [])) ∙ k))))
    (λ k. known_other (word w) (among_left (word w) (map word option_words) (number (codes "1") ∷ line_end ∷ []) (word_among w option_words k)))

-- ---- known tokens are written

abbrev is_written : Lexical → Bool
is_written (word w) = is_whole w
is_written (number d) = starts is_ascii_digit d && list_all is_ascii_digit d
is_written (sign s) = is_sign Kernel s
is_written line_end = true

some_digits : (d : List ℕ) → starts is_ascii_digit d ≡ true → 0 < length d
some_digits [] h = absurd (cc)
some_digits (c ∷ cs) h = omega arith

written : (x : Lexical) → is_written x ≡ true → IsWritten x
written (word w) h = whole_word w h
written (number d) h = let p = and_parts (starts is_ascii_digit d) (list_all is_ascii_digit d) h in record { some = some_digits d p.0; bytes = p.1 }
written (sign s) h = h
written line_end h = tt

written_among : (x : Lexical) (xs : List Lexical) → list_all is_written xs ≡ true → Among x xs → is_written x ≡ true
written_among x [] h k = absurd k
written_among x (y ∷ ys) h (inl e) = ap is_written e ∙ (and_parts (is_written y) (list_all is_written ys) h).0
written_among x (y ∷ ys) h (inr k) = written_among x ys (and_parts (is_written y) (list_all is_written ys) h).1 k

-- ---- what is begun

-- the last byte, or 0
abbrev last_byte : List ℕ → ℕ
last_byte [] = 0
last_byte (c ∷ []) = c
last_byte (c ∷ d ∷ ds) = last_byte (d ∷ ds)

last_pushed : (w : List ℕ) (c : ℕ) → last_byte (w ++ c ∷ []) ≡ c
last_pushed [] c = refl
last_pushed (d ∷ []) c = refl
last_pushed (d ∷ e ∷ w) c = last_pushed (e ∷ w) c

-- none of the words ends in 0
abbrev none_ends : List (List ℕ) → Bool
none_ends [] = true
none_ends (w ∷ words) = not (last_byte w == 48) && none_ends words

not_among : (w : List ℕ) (words : List (List ℕ)) → last_byte w ≡ 48 → none_ends words ≡ true → list_any (bytes_eq w) words ≡ false
not_among w [] e h = refl
not_among w (v ∷ words) e h = let p = and_parts (not (last_byte v == 48)) (none_ends words) h in by_cases {C = list_any (bytes_eq w) (v ∷ words) ≡ false} (bytes_eq w v)
    (λ k. let same : last_byte v ≡ 48 = sym (ap last_byte ((bytes_eq-Decides w v).0 k)) ∙ e in let bad : false ≡ true = ap (λ n. not (n == 48)) (sym same) ∙ p.0 in absurd (cc))
    (λ k. ap (λ b. b || list_any (bytes_eq w) words) k ∙ not_among w words e p.1)

ends_free : (w : List ℕ) → is_reserved (w ++ 48 ∷ []) ≡ false
ends_free w = let v = w ++ 48 ∷ [] in ap (λ b. b || is_some (kind_named v)) (not_among v keywords (last_pushed w 48) refl)
    ∙ (found_any kind_word v (I32 ∷ I64 ∷ U32 ∷ U64 ∷ []) ∙ not_among v (map kind_word (I32 ∷ I64 ∷ U32 ∷ U64 ∷ [])) (last_pushed w 48) refl)

not_kept : (w : List ℕ) → is_kept Kernel w ≡ false → is_kept Kernel (w ++ 48 ∷ []) ≡ false
not_kept [] h = refl
not_kept (a ∷ []) h = refl
not_kept (a ∷ b ∷ []) h = both (a == 108) (b == 112) where
  both : (p q : Bool) → (p && (q && false)) ≡ false
  both true true = refl
  both true false = refl
  both false q = refl
not_kept (a ∷ b ∷ c ∷ cs) h = h

-- a word with a 0 behind it is a word
longer_word : (w : List ℕ) → IsWord Kernel w → IsWord Kernel (w ++ 48 ∷ [])
longer_word [] h = absurd (omega (arith, h.some))
longer_word (c ∷ cs) h = record { some = omega arith; begins = h.begins; bytes = list_all-append (is_of_word Kernel) (c ∷ cs) (48 ∷ []) ∙ ap (λ b. b && true) h.bytes; free = not_kept (c ∷ cs) h.free }

-- any name stands there, so that all of the text begins one
pub begun_name : {front : List Lexical} {text : List ℕ} → IsTried front text → (starts begins_word text ≡ true) × GoesOn front (key "x") → IsBegun front text (length text)
begun_name {front} {text} t h = record {
  within = omega arith;
  begins = λ some. (word (text ++ 48 ∷ []), longer_word text (t.word h.0), name_begins front (codes "x") (text ++ 48 ∷ []) refl (ends_free text) h.1, 48 ∷ [], ap (λ xs. xs ++ 48 ∷ []) (sym (take_all (length text) text (omega arith))));
  longest = λ x w g. common_within text (spelled x);
}

-- what is known of an answer that is known
pub taken : (front : List Lexical) (text : List ℕ) {b c : Bool} → b ≡ c → TakesName front text b → TakesName front text c
taken front text e h = subst (λ b. TakesName front text b) e h

word_starts : (w : List ℕ) → IsWord Kernel w → starts begins_word w ≡ true
word_starts [] h = absurd (omega (arith, h.some))
word_starts (c ∷ cs) h = h.begins

digits_start : (d : List ℕ) → IsDigits d → starts is_ascii_digit d ≡ true
digits_start [] h = absurd (omega (arith, h.some))
digits_start (c ∷ cs) h = (and_parts (is_ascii_digit c) (list_all is_ascii_digit cs) h.bytes).0

-- no name goes on, so that the known tokens stand for all
pub begun_known : {front : List Lexical} {text : List ℕ} {count : ℕ} → IsTried front text → (starts begins_word text ≡ true → GoesOn front (key "x") → ⊥) → IsLonger front text known 0 count → IsBegun front text count
begun_known {front} {text} {count} t none h = record { within = within h.is; begins = begins h.is; longest = longest } where
  within : (count ≡ 0) ⊎ IsCommon front text known count → count ≤ length text
  within (inl e) = omega (arith, e)
  within (inr c) = omega (arith, c.is, common_within text (spelled c.x))

  begins : (count ≡ 0) ⊎ IsCommon front text known count → 0 < count → (x : Lexical) × IsWritten x × GoesOn front x × (others : List ℕ) × (spelled x ≡ take count text ++ others)
  begins (inl e) some = absurd (omega (arith, e, some))
  begins (inr c) some = let r = common_begins text (spelled c.x) in (c.x, written c.x (written_among c.x known refl c.among), c.goes, r.0, r.1 ∙ ap (λ n. take n text ++ r.0) (sym c.is))

  bare : (f : ℕ → Bool) (ys : List ℕ) → starts f text ≡ false → starts f ys ≡ true → common text ys ≤ count
  bare f ys e k = omega (arith, apart f text ys e k)

  longest : (x : Lexical) → IsWritten x → GoesOn front x → common text (spelled x) ≤ count
  longest (word w) k g = by_cases {C = common text w ≤ count} (is_free (word w))
      (λ e. by_cases {C = common text w ≤ count} (starts begins_word text)
      (λ f. absurd (none f (name_begins front w (codes "x") e refl g)))
      (λ f. bare begins_word w f (word_starts w k)))
      (λ e. h.longest (word w) (known_word w e) g)
  longest (number d) k g = by_cases {C = common text d ≤ count} (starts is_ascii_digit text)
      (λ f. by_cases {C = common text d ≤ count} (list_any is_number front)
      (λ e. absurd (t.number f (number_begins front d text e g)))
      (λ e. h.longest (number d) (known_other (number d) (inr (inr (inr (inl (ap number (begins_one front d e g))))))) g))
      (λ f. bare is_ascii_digit d f (digits_start d k))
  longest (sign s) k g = h.longest (sign s) (known_sign (sign s) (sign_among s k)) g
  longest line_end k g = h.longest line_end (known_other line_end (inr (inr (inr (inr (inl refl)))))) g

-- the same of an answer
pub begun_known_in : {E : Type 0} {front : List Lexical} {text : List ℕ} (r : Result ℕ E) → IsTried front text → (starts begins_word text ≡ true → GoesOn front (key "x") → ⊥) → IfOk r (IsLonger front text known 0) → IfOk r (IsBegun front text)
begun_known_in (Ok count) t none h = begun_known t none h
begun_known_in (Err e) t none h = tt
