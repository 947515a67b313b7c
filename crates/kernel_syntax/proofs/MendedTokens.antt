-- Tokens that are spelled well, in place of those that are not.
use Rattle.std.proofs.Common.{◌≡◌, ◌<◌, ℕ, Bool, true, false, not, ◌&&◌, List, [], ◌∷◌, ◌++◌, map, sym, ap, ◌∙◌, refl, arith, codes}
use Rattle.std.specs.Char.{is_ascii_digit}
use Rattle.std.specs.List.{list_all}
use Rattle.std.proofs.lemmas.Bool.{false≢true, and_from, and_parts, not-true, not_from_false}
use Rattle.text_reader.specs.declared.form.Form.TheVariants.{Kernel}
use Rattle.text_reader.specs.Bytes.{begins_word}
use Rattle.text_reader.specs.Lexemes.{is_kept}
use Rattle.text_reader.specs.Spelling.{IsWord, IsDigits, is_of_word}
use Rattle.kernel_grammar.specs.Lexicals.{Lexical, word, number, sign, line_end, listed}
use Rattle.kernel_grammar.specs.Words.{Name, is_reserved}
use Rattle.kernel_syntax.specs.TokenTexts.{IsWell, AreWell}

-- the bytes are a word that the program does not keep
abbrev pub is_well_word : List ℕ → Bool
is_well_word [] = false
is_well_word (c ∷ cs) = begins_word c && (list_all (is_of_word Kernel) (c ∷ cs) && not (is_kept Kernel (c ∷ cs)))

-- the bytes are digits
abbrev pub is_well_number : List ℕ → Bool
is_well_number [] = false
is_well_number (c ∷ cs) = list_all is_ascii_digit (c ∷ cs)

-- the bytes, or others where they are not spelled well
abbrev pub kept_if : Bool → List ℕ → List ℕ → List ℕ
kept_if true bytes others = bytes
kept_if false bytes others = others

-- a word, or `x` where it is not spelled well
abbrev pub mend_word : List ℕ → List ℕ
mend_word text = kept_if (is_well_word text) text (codes "x")

-- a number, or `1` where it is not spelled well
abbrev pub mend_number : List ℕ → List ℕ
mend_number digits = kept_if (is_well_number digits) digits (codes "1")

-- a token, with other bytes where it is not spelled well
abbrev pub mend : Lexical → Lexical
mend (word text) = word (mend_word text)
mend (number digits) = number (mend_number digits)
mend (sign text) = sign text
mend line_end = line_end

pub word_well : (text : List ℕ) → is_well_word text ≡ true → IsWord Kernel text
word_well [] h = absurd (false≢true h)
word_well (c ∷ cs) h =
    let one = and_parts (begins_word c) (list_all (is_of_word Kernel) (c ∷ cs) && not (is_kept Kernel (c ∷ cs))) h in
    let two = and_parts (list_all (is_of_word Kernel) (c ∷ cs)) (not (is_kept Kernel (c ∷ cs))) one.1 in
    record { some = omega arith; begins = one.0; bytes = two.0; free = not-true (is_kept Kernel (c ∷ cs)) two.1 }

well_is_word : (text : List ℕ) → IsWord Kernel text → is_well_word text ≡ true
well_is_word [] h = absurd (let some : 0 < 0 = h.some in omega arith)
well_is_word (c ∷ cs) h = and_from (begins_word c) (list_all (is_of_word Kernel) (c ∷ cs) && not (is_kept Kernel (c ∷ cs))) h.begins (and_from (list_all (is_of_word Kernel) (c ∷ cs)) (not (is_kept Kernel (c ∷ cs))) h.bytes (not_from_false (is_kept Kernel (c ∷ cs)) h.free))

pub number_well : (digits : List ℕ) → is_well_number digits ≡ true → IsDigits digits
number_well [] h = absurd (false≢true h)
number_well (c ∷ cs) h = record { some = omega arith; bytes = h }

well_is_number : (digits : List ℕ) → IsDigits digits → is_well_number digits ≡ true
well_is_number [] h = absurd (let some : 0 < 0 = h.some in omega arith)
well_is_number (c ∷ cs) h = h.bytes

pub by_test : (P : List ℕ → Type 0) (b : Bool) (bytes others : List ℕ) → (b ≡ true → P bytes) → P others → P (kept_if b bytes others)
by_test P true bytes others h k = h refl
by_test P false bytes others h k = k

pub mended_word : (text : List ℕ) → IsWord Kernel (mend_word text)
mended_word text = by_test (IsWord Kernel) (is_well_word text) text (codes "x") (word_well text) (word_well (codes "x") refl)

pub mended_number : (digits : List ℕ) → IsDigits (mend_number digits)
mended_number digits = by_test IsDigits (is_well_number digits) digits (codes "1") (number_well digits) (number_well (codes "1") refl)

-- a name that is spelled well
abbrev pub mend_name : Name → Name
mend_name name = record { word = mend_word name.word; free = by_test (λ (w : List ℕ). is_reserved w ≡ false) (is_well_word name.word) name.word (codes "x") (λ e. name.free) refl }

mended_well : (x : Lexical) → IsWell x → mend x ≡ x
mended_well (word text) h = ap (λ (b : Bool). word (kept_if b text (codes "x"))) (well_is_word text h)
mended_well (number digits) h = ap (λ (b : Bool). number (kept_if b digits (codes "1"))) (well_is_number digits h)
mended_well (sign text) h = refl
mended_well line_end h = refl

-- what is spelled well stays
pub well_stays : (text : List Lexical) → AreWell text → map mend text ≡ text
well_stays [] h = refl
well_stays (x ∷ text) h = ap (λ (y : Lexical). y ∷ map mend text) (mended_well x h.0) ∙ ap (λ (z : List Lexical). x ∷ z) (well_stays text h.1)

pub well_joined : (xs ys : List Lexical) → AreWell xs → AreWell ys → AreWell (xs ++ ys)
well_joined [] ys h k = k
well_joined (x ∷ xs) ys h k = (h.0, well_joined xs ys h.1 k)

pub well_behind : (xs ys : List Lexical) → AreWell (xs ++ ys) → AreWell ys
well_behind [] ys h = h
well_behind (x ∷ xs) ys h = well_behind xs ys h.1

pub mend_joined : (xs ys : List Lexical) → map mend (xs ++ ys) ≡ map mend xs ++ map mend ys
mend_joined [] ys = refl
mend_joined (x ∷ xs) ys = ap (λ (z : List Lexical). mend x ∷ z) (mend_joined xs ys)

-- The other text is this one, mended, and is spelled well.
pub record Good (text other : List Lexical) : Type 0 where
  pub same : other ≡ map mend text
  pub well : AreWell other

pub none : Good [] []
none = record { same = refl; well = tt }

pub both : {a b c d : List Lexical} → Good a b → Good c d → Good (a ++ c) (b ++ d)
both {a} {b} {c} {d} h k = record {
  same = ap (λ (z : List Lexical). z ++ d) h.same ∙ ap (λ (z : List Lexical). map mend a ++ z) k.same ∙ sym (mend_joined a c);
  well = well_joined b d h.well k.well;
}

-- a token that is spelled well, before them
pub behind_token : (x : Lexical) {c d : List Lexical} → IsWell x → Good c d → Good (x ∷ c) (x ∷ d)
behind_token x {c} {d} w k = record {
  same = ap (λ (y : Lexical). y ∷ d) (sym (mended_well x w)) ∙ ap (λ (z : List Lexical). mend x ∷ z) k.same;
  well = (w, k.well);
}

pub behind_word : (text : List ℕ) {c d : List Lexical} → Good c d → Good (word text ∷ c) (word (mend_word text) ∷ d)
behind_word text {c} {d} k = record { same = ap (λ (z : List Lexical). word (mend_word text) ∷ z) k.same; well = (mended_word text, k.well) }

pub behind_number : (digits : List ℕ) {c d : List Lexical} → Good c d → Good (number digits ∷ c) (number (mend_number digits) ∷ d)
behind_number digits {c} {d} k = record { same = ap (λ (z : List Lexical). number (mend_number digits) ∷ z) k.same; well = (mended_number digits, k.well) }

-- texts with a sign between each two
pub good_list : {X : Type 0} (spell : X → List Lexical) (between : Lexical) → IsWell between → (f : X → X) → ((x : X) → Good (spell x) (spell (f x))) → (xs : List X) → Good (listed between (map spell xs)) (listed between (map spell (map f xs)))
good_list spell between w f h [] = none
good_list spell between w f h (x ∷ []) = h x
good_list spell between w f h (x ∷ y ∷ xs) = both (h x) (behind_token between w (good_list spell between w f h (y ∷ xs)))
