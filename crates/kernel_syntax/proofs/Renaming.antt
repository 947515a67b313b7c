-- A kernel file stays one if names and numbers behind its head are others.
use Rattle.std.proofs.Common.{◌≡◌, inl, inr, ℕ, zero, suc, Bool, true, false, not, ◌&&◌, ◌||◌, cond, if◌then◌else◌, List, [], ◌∷◌, ◌++◌, map, length, find, Option, Some, None, is_some, All, ap, sym, refl, ◌∙◌, subst, append_assoc, codes, bytes_eq, arith}
use Rattle.std.specs.List.{list_all, list_any}
use Rattle.std.proofs.lemmas.Bool.{and_parts}
use Rattle.std.proofs.lemmas.Slice.Eq.{bytes_eq-Decides}
use Rattle.std.proofs.lemmas.List.Folds.{list_all-append}
use Rattle.text_reader.specs.declared.form.Form.TheVariants.{Kernel}
use Rattle.text_reader.specs.Bytes.{begins_word}
use Rattle.text_reader.specs.Lexemes.{is_kept}
use Rattle.text_reader.specs.Spelling.{is_of_word, IsWord}
use Rattle.wrap_words.specs.declared.kind.Kind.TheVariants.{I32, I64, U32, U64}
use Rattle.kind_faults.specs.Words.{kind_word}
use Rattle.kernel_grammar.specs.Words.{keywords, is_reserved, kind_named}
use Rattle.kernel_grammar.specs.Lexicals.{Lexical, word, number, sign, line_end, key}
use Rattle.kernel_grammar.specs.Lines.{Line}
use Rattle.kernel_grammar.specs.Files.{file_text}
use Rattle.kernel_expressions.specs.Settled.{Begins, Spells}
use Rattle.kernel_syntax.specs.Places.{IsWritten}
use Rattle.kernel_syntax.proofs.Alike.{option_words, is_free, is_number, is_sound, Alike, AreAlike, fixed_stays, not_true, lines_kept}

-- the first number, where there is one
abbrev pub first_number : List Lexical → Option (List ℕ)
first_number [] = None
first_number (word w ∷ xs) = first_number xs
first_number (number d ∷ xs) = Some d
first_number (sign s ∷ xs) = first_number xs
first_number (line_end ∷ xs) = first_number xs

-- ---- like files

alike_number : (d : List ℕ) (x : Lexical) → Alike (number d) x → is_number x ≡ true
alike_number d x (inl e) = ap is_number e
alike_number d x (inr r) = r.class

number_is : (x : Lexical) (xs : List Lexical) (d : List ℕ) → is_number x ≡ true → first_number (x ∷ xs) ≡ Some d → x ≡ number d
number_is (word w) xs d h e = absurd (cc)
number_is (number c) xs d h e = let same : c ≡ d = cc in ap number same
number_is (sign s) xs d h e = absurd (cc)
number_is line_end xs d h e = absurd (cc)

like_file : (n : ℕ) (lines : List (Option Line)) (us : List Lexical) → AreAlike (file_text (record { before = n; lines = lines })) us → first_number us ≡ Some (codes "1") → Spells file_text us
like_file zero lines [] h e = absurd h
like_file zero lines (a ∷ []) h e = absurd h.1
like_file zero lines (a ∷ b ∷ []) h e = absurd h.1.1
like_file zero lines (a ∷ b ∷ c ∷ us) h e =
    let first : a ≡ key "kernel" = fixed_stays (key "kernel") a refl h.0 in
    let second : b ≡ number (codes "1") = number_is b (c ∷ us) (codes "1") (alike_number (codes "1") b h.1.0) (subst (λ x. first_number (x ∷ b ∷ c ∷ us) ≡ Some (codes "1")) first e) in
    let third : c ≡ line_end = fixed_stays line_end c refl h.1.1.0 in
    let s = (lines_kept lines).to us h.1.1.1 in record {
      tree = record { before = zero; lines = s.tree };
      spelled = ap (λ xs. key "kernel" ∷ number (codes "1") ∷ line_end ∷ xs) s.spelled ∙ ap (λ x. key "kernel" ∷ number (codes "1") ∷ x ∷ us) (sym third)
          ∙ ap (λ x. key "kernel" ∷ x ∷ c ∷ us) (sym second) ∙ ap (λ x. x ∷ b ∷ c ∷ us) (sym first);
    }
like_file (suc n) lines [] h e = absurd h
like_file (suc n) lines (a ∷ us) h e =
    let first : a ≡ line_end = fixed_stays line_end a refl h.0 in
    let s = like_file n lines us h.1 (subst (λ x. first_number (x ∷ us) ≡ Some (codes "1")) first e) in record {
      tree = record { before = suc s.tree.before; lines = s.tree.lines };
      spelled = ap (λ xs. line_end ∷ xs) s.spelled ∙ ap (λ x. x ∷ us) (sym first);
    }

-- A text like a file whose first number is 1 is a file.
pub file_alike : (ts us : List Lexical) → Spells file_text ts → AreAlike ts us → first_number us ≡ Some (codes "1") → Spells file_text us
file_alike ts us s h e = like_file s.tree.before s.tree.lines us (subst (λ xs. AreAlike xs us) (sym s.spelled) h) e

one_first : (n : ℕ) (lines : List (Option Line)) → first_number (file_text (record { before = n; lines = lines })) ≡ Some (codes "1")
one_first zero lines = refl
one_first (suc n) lines = one_first n lines

-- the first number of a file is 1
pub file_one : (ts : List Lexical) → Spells file_text ts → first_number ts ≡ Some (codes "1")
file_one ts s = ap first_number (sym s.spelled) ∙ one_first s.tree.before s.tree.lines

pub alike_self : (xs : List Lexical) → AreAlike xs xs
alike_self [] = tt
alike_self (x ∷ xs) = (inl refl, alike_self xs)

alike_behind : (front xs ys : List Lexical) → AreAlike xs ys → AreAlike (front ++ xs) (front ++ ys)
alike_behind [] xs ys h = h
alike_behind (x ∷ front) xs ys h = (inl refl, alike_behind front xs ys h)

one_behind : (front xs ys : List Lexical) (e : Option (List ℕ)) → first_number (front ++ xs) ≡ e → (first_number xs ≡ e → first_number ys ≡ e) → first_number (front ++ ys) ≡ e
one_behind [] xs ys e h k = k h
one_behind (word w ∷ front) xs ys e h k = one_behind front xs ys e h k
one_behind (number d ∷ front) xs ys e h k = h
one_behind (sign s ∷ front) xs ys e h k = one_behind front xs ys e h k
one_behind (line_end ∷ front) xs ys e h k = one_behind front xs ys e h k

one_within : (front xs ys : List Lexical) (e : Option (List ℕ)) → list_any is_number front ≡ true → first_number (front ++ xs) ≡ e → first_number (front ++ ys) ≡ e
one_within [] xs ys e h k = absurd (cc)
one_within (word w ∷ front) xs ys e h k = one_within front xs ys e h k
one_within (number d ∷ front) xs ys e h k = k
one_within (sign s ∷ front) xs ys e h k = one_within front xs ys e h k
one_within (line_end ∷ front) xs ys e h k = one_within front xs ys e h k

-- ---- one token for another

-- any name for a name that is no option's word
pub name_for : (front more : List Lexical) (v w : List ℕ) → is_free (word v) ≡ true → is_reserved w ≡ false → Spells file_text (front ++ word v ∷ more) → Spells file_text (front ++ word w ∷ more)
name_for front more v w e f h = file_alike (front ++ word v ∷ more) (front ++ word w ∷ more) h
    (alike_behind front (word v ∷ more) (word w ∷ more) (inr (record { was = e; now = ap not f; class = refl }), alike_self more))
    (one_behind front (word v ∷ more) (word w ∷ more) (Some (codes "1")) (file_one (front ++ word v ∷ more) h) (λ k. k))

number_alike : (front more : List Lexical) (c d : List ℕ) → AreAlike (front ++ number c ∷ more) (front ++ number d ∷ more)
number_alike front more c d = alike_behind front (number c ∷ more) (number d ∷ more) (inr (record { was = refl; now = refl; class = refl }), alike_self more)

-- 1 for a number
pub one_for : (front more : List Lexical) (d : List ℕ) → Spells file_text (front ++ number d ∷ more) → Spells file_text (front ++ number (codes "1") ∷ more)
one_for front more d h = file_alike (front ++ number d ∷ more) (front ++ number (codes "1") ∷ more) h (number_alike front more d (codes "1"))
    (one_behind front (number d ∷ more) (number (codes "1") ∷ more) (Some (codes "1")) (file_one (front ++ number d ∷ more) h) (λ k. refl))

-- one number for another, where one stands before it
pub number_for : (front more : List Lexical) (c d : List ℕ) → list_any is_number front ≡ true → Spells file_text (front ++ number c ∷ more) → Spells file_text (front ++ number d ∷ more)
number_for front more c d e h = file_alike (front ++ number c ∷ more) (front ++ number d ∷ more) h (number_alike front more c d)
    (one_within front (number c ∷ more) (number d ∷ more) (Some (codes "1")) e (file_one (front ++ number c ∷ more) h))

none_before : (front xs : List Lexical) → list_any is_number front ≡ false → first_number (front ++ xs) ≡ first_number xs
none_before [] xs h = refl
none_before (word w ∷ front) xs h = none_before front xs h
none_before (number d ∷ front) xs h = absurd (cc)
none_before (sign s ∷ front) xs h = none_before front xs h
none_before (line_end ∷ front) xs h = none_before front xs h

-- a number before which none stands is 1
pub first_is_one : (front more : List Lexical) (d : List ℕ) → list_any is_number front ≡ false → Spells file_text (front ++ number d ∷ more) → d ≡ codes "1"
first_is_one front more d e h = let k : Some d ≡ Some (codes "1") = sym (none_before front (number d ∷ more) e) ∙ file_one (front ++ number d ∷ more) h in cc

-- ---- the same of what begins a file

begins_for : (front : List Lexical) (x y : Lexical) → ((more : List Lexical) → Spells file_text (front ++ x ∷ more) → Spells file_text (front ++ y ∷ more)) → Begins (Spells file_text) (front ++ x ∷ []) → Begins (Spells file_text) (front ++ y ∷ [])
begins_for front x y k h = record {
  more = h.more;
  is = subst (λ xs. Spells file_text xs) (sym (append_assoc front (y ∷ []) h.more)) (k h.more (subst (λ xs. Spells file_text xs) (append_assoc front (x ∷ []) h.more) h.is));
}

pub name_begins : (front : List Lexical) (v w : List ℕ) → is_free (word v) ≡ true → is_reserved w ≡ false → Begins (Spells file_text) (front ++ word v ∷ []) → Begins (Spells file_text) (front ++ word w ∷ [])
name_begins front v w e f = begins_for front (word v) (word w) (λ more. name_for front more v w e f)

pub one_begins : (front : List Lexical) (d : List ℕ) → Begins (Spells file_text) (front ++ number d ∷ []) → Begins (Spells file_text) (front ++ number (codes "1") ∷ [])
one_begins front d = begins_for front (number d) (number (codes "1")) (λ more. one_for front more d)

pub number_begins : (front : List Lexical) (c d : List ℕ) → list_any is_number front ≡ true → Begins (Spells file_text) (front ++ number c ∷ []) → Begins (Spells file_text) (front ++ number d ∷ [])
number_begins front c d e = begins_for front (number c) (number d) (λ more. number_for front more c d e)

pub begins_one : (front : List Lexical) (d : List ℕ) → list_any is_number front ≡ false → Begins (Spells file_text) (front ++ number d ∷ []) → d ≡ codes "1"
begins_one front d e h = first_is_one front h.more d e (subst (λ xs. Spells file_text xs) (append_assoc front (number d ∷ []) h.more) h.is)

-- ---- a rest that can be written

-- `x` for each name that is no option's word, and 1 for each number
abbrev pub plain : Lexical → Lexical
plain (word w) = if is_free (word w) then key "x" else word w
plain (number d) = number (codes "1")
plain (sign s) = sign s
plain line_end = line_end

pub by_cases : {C : Type 0} (b : Bool) → (b ≡ true → C) → (b ≡ false → C) → C
by_cases true h k = h refl
by_cases false h k = k refl

plain_name : (w : List ℕ) → is_free (word w) ≡ true → plain (word w) ≡ key "x"
plain_name w e = ap (λ b. if b then key "x" else word w) e

plain_word : (w : List ℕ) → is_free (word w) ≡ false → plain (word w) ≡ word w
plain_word w e = ap (λ b. if b then key "x" else word w) e

plain_alike : (x : Lexical) → Alike x (plain x)
plain_alike (word w) = by_cases {C = Alike (word w) (plain (word w))} (is_free (word w))
    (λ e. subst (λ y. Alike (word w) y) (sym (plain_name w e)) (inr (record { was = e; now = refl; class = refl })))
    (λ e. inl (plain_word w e))
plain_alike (number d) = inr (record { was = refl; now = refl; class = refl })
plain_alike (sign s) = inl refl
plain_alike line_end = inl refl

plain_all : (xs : List Lexical) → AreAlike xs (map plain xs)
plain_all [] = tt
plain_all (x ∷ xs) = (plain_alike x, plain_all xs)

plain_first : (x : Lexical) (xs : List Lexical) → is_number x ≡ false → first_number (x ∷ xs) ≡ first_number xs
plain_first (word w) xs h = refl
plain_first (number d) xs h = absurd (cc)
plain_first (sign s) xs h = refl
plain_first line_end xs h = refl

plain_class : (w : List ℕ) → is_number (plain (word w)) ≡ false
plain_class w = by_cases {C = is_number (plain (word w)) ≡ false} (is_free (word w)) (λ e. ap is_number (plain_name w e)) (λ e. ap is_number (plain_word w e))

plain_one : (xs : List Lexical) → first_number xs ≡ Some (codes "1") → first_number (map plain xs) ≡ Some (codes "1")
plain_one [] h = h
plain_one (word w ∷ xs) h = plain_first (plain (word w)) (map plain xs) (plain_class w) ∙ plain_one xs h
plain_one (number d ∷ xs) h = refl
plain_one (sign s ∷ xs) h = plain_one xs h
plain_one (line_end ∷ xs) h = plain_one xs h

-- a word of the reader
abbrev pub is_whole : List ℕ → Bool
is_whole [] = false
is_whole (c ∷ cs) = begins_word c && (list_all (is_of_word Kernel) (c ∷ cs) && not (is_kept Kernel (c ∷ cs)))

pub whole_word : (w : List ℕ) → is_whole w ≡ true → IsWord Kernel w
whole_word [] h = absurd (cc)
whole_word (c ∷ cs) h =
    let p = and_parts (begins_word c) _ h in let q = and_parts (list_all (is_of_word Kernel) (c ∷ cs)) (not (is_kept Kernel (c ∷ cs))) p.1 in
    record { some = omega arith; begins = p.0; bytes = q.0; free = not_true (is_kept Kernel (c ∷ cs)) q.1 }

among : (w : List ℕ) (words : List (List ℕ)) → list_all is_whole words ≡ true → list_any (bytes_eq w) words ≡ true → is_whole w ≡ true
among w [] h k = absurd (cc)
among w (v ∷ words) h k = let p = and_parts (is_whole v) (list_all is_whole words) h in by_cases {C = is_whole w ≡ true} (bytes_eq w v)
    (λ e. ap is_whole ((bytes_eq-Decides w v).0 e) ∙ p.0)
    (λ e. among w words p.1 (sym (ap (λ b. b || list_any (bytes_eq w) words) e) ∙ k))

pub found_any : {X : Type 0} (f : X → List ℕ) (w : List ℕ) (xs : List X) → is_some (find (λ x. bytes_eq w (f x)) xs) ≡ list_any (bytes_eq w) (map f xs)
found_any {X = X} f w [] = refl
found_any {X = X} f w (x ∷ xs) = here (bytes_eq w (f x)) (find (λ y. bytes_eq w (f y)) xs) (found_any f w xs) where
  here : (b : Bool) (r : Option X) {l : Bool} → is_some r ≡ l → is_some (cond b (Some x) r) ≡ (b || l)
  here true r e = refl
  here false r e = e

pub one_of_three : {C : Type 0} (a b c : Bool) → (not (a || b) && not c) ≡ false → (a ≡ true → C) → (b ≡ true → C) → (c ≡ true → C) → C
one_of_three true b c e f g h = f refl
one_of_three false true c e f g h = g refl
one_of_three false false true e f g h = h refl
one_of_three false false false e f g h = absurd (cc)

quoted_word : (w : List ℕ) → is_free (word w) ≡ false → IsWord Kernel w
quoted_word w e = whole_word w (one_of_three {C = is_whole w ≡ true} (list_any (bytes_eq w) keywords) (is_some (kind_named w)) (list_any (bytes_eq w) option_words) e
    (among w keywords refl)
    (λ k. among w (map kind_word (I32 ∷ I64 ∷ U32 ∷ U64 ∷ [])) refl (sym (found_any kind_word w (I32 ∷ I64 ∷ U32 ∷ U64 ∷ [])) ∙ k))
    (among w option_words refl))

plain_written : (x : Lexical) → is_sound x ≡ true → IsWritten (plain x)
plain_written (word w) h = by_cases {C = IsWritten (plain (word w))} (is_free (word w))
    (λ e. subst (λ y. IsWritten y) (sym (plain_name w e)) (whole_word (codes "x") refl))
    (λ e. subst (λ y. IsWritten y) (sym (plain_word w e)) (quoted_word w e))
plain_written (number d) h = record { some = omega arith; bytes = refl }
plain_written (sign s) h = h
plain_written line_end h = tt

written_all : (xs : List Lexical) → list_all is_sound xs ≡ true → All IsWritten (map plain xs)
written_all [] h i d p = absurd (omega (arith, p))
written_all (x ∷ xs) h zero d p = plain_written x (and_parts (is_sound x) (list_all is_sound xs) h).0
written_all (x ∷ xs) h (suc i) d p = written_all xs (and_parts (is_sound x) (list_all is_sound xs) h).1 i d (omega (arith, p))

file_sound : (n : ℕ) (lines : List (Option Line)) → list_all is_sound (file_text (record { before = n; lines = lines })) ≡ true
file_sound zero lines = (lines_kept lines).sound
file_sound (suc n) lines = file_sound n lines

map_length : (xs : List Lexical) → length (map plain xs) ≡ length xs
map_length [] = refl
map_length (x ∷ xs) = ap suc (map_length xs)

-- Behind the front the tokens can be written, and are as many as the others.
pub record Written (front more : List Lexical) : Type 0 where
  pub rest : List Lexical
  pub long : length rest ≡ length more
  pub written : All IsWritten rest
  pub file : Spells file_text (front ++ rest)

-- what goes on to a file goes on to one by tokens that can be written
pub written_rest : (front more : List Lexical) → Spells file_text (front ++ more) → Written front more
written_rest front more h = record {
  rest = map plain more;
  long = map_length more;
  written = written_all more (and_parts (list_all is_sound front) (list_all is_sound more) (sym (list_all-append is_sound front more) ∙ (ap (list_all is_sound) (sym h.spelled) ∙ file_sound h.tree.before h.tree.lines))).1;
  file = file_alike (front ++ more) (front ++ map plain more) h (alike_behind front more (map plain more) (plain_all more))
      (one_behind front more (map plain more) (Some (codes "1")) (file_one (front ++ more) h) (plain_one more));
}
