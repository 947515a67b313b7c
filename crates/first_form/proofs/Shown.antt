-- The word that is shown.
use Rattle.std.proofs.Common.{◌≡◌, ℕ, ◌<◌, Bool, true, false, cond, not, List, [], ◌∷◌, map, codes, sym, ap, ◌∙◌, refl, arith, subst, Option, None, Some, Result, Ok, Err}
use Rattle.std.specs.Prelude.{find, unwrap_or}
use Rattle.std.proofs.lemmas.Bool.{and_parts}
use Rattle.std.proofs.lemmas.Bool.Decides.{nat_tests}
use Rattle.std.proofs.lemmas.Option.{same_Some, none-some}
use Rattle.std.proofs.lemmas.Str.{IsUtf8-from_ascii}
use Rattle.std.proofs.lemmas.Str.Ascii.{IsAscii-nil, IsAscii-cons}
use Rattle.std.specs.List.{list_all, slice_split}
use Rattle.std.specs.Result.{IfOk, IsOk, MatchResult}
use Rattle.std.specs.Option.{option_map}
use Rattle.std.specs.Str.{IsAscii, IsUtf8}
use Rattle.first_form.specs.Form.{are_names}
use Rattle.first_form.specs.Names.{is_word, is_kept, is_word_byte}
use Rattle.first_form.specs.Refused.{is_shown, past_digits, shown_word, first_line}
use Rattle.first_form.proofs.Fronts.{word_passes, name_passes}
use Rattle.first_form.proofs.NameLists.{last_name, front_names}

byte_ascii : (c : ℕ) → is_word_byte c ≡ true → c < 128
byte_ascii c h = grind (arith, nat_tests)

ascii : (word : List ℕ) → list_all is_word_byte word ≡ true → IsAscii word
ascii [] h = IsAscii-nil
ascii (c ∷ cs) h = let k = and_parts (is_word_byte c) (list_all is_word_byte cs) h in IsAscii-cons c cs (byte_ascii c k.0) (ascii cs k.1)

text_or_not : {T E : Type 0} (r : Result T E) (P : T → Type 0) (U : Type 0) (Q : E → Type 0) → U → MatchResult r P (λ e. ¬ U × Q e) → IsOk r
text_or_not (Ok x) P U Q u h = refl
text_or_not (Err e) P U Q u h = absurd (h.0 u)

pub is_text : {T E : Type 0} (r : Result T E) (P : T → Type 0) (Q : E → Type 0) (word : List ℕ) → list_all is_word_byte word ≡ true → MatchResult r P (λ e. ¬ (IsUtf8 word) × Q e) → IsOk r
is_text r P Q word passes h = text_or_not r P (IsUtf8 word) Q (IsUtf8-from_ascii word (ascii word passes)) h

found_passes : (test : List ℕ → Bool) (x word : List ℕ) (rest : Option (List ℕ)) (b : Bool) → test x ≡ b → (Some word ≡ rest → test word ≡ true) → Some word ≡ cond b (Some x) rest → test word ≡ true
found_passes test x word rest true e more h = subst (λ (z : List ℕ). test z ≡ true) (same_Some x word (sym h)) e
found_passes test x word rest false e more h = more h

find_passes : (test : List ℕ → Bool) (words : List (List ℕ)) (word : List ℕ) → Some word ≡ find test words → test word ≡ true
find_passes test [] word h = absurd (none-some word (sym h))
find_passes test (x ∷ xs) word h = found_passes test x word (find test xs) (test x) refl (find_passes test xs word) h

map_cond : (f : List ℕ → List ℕ) (x : List ℕ) (rest : Option (List ℕ)) (b : Bool) → cond b (Some (f x)) (option_map f rest) ≡ option_map f (cond b (Some x) rest)
map_cond f x rest true = refl
map_cond f x rest false = refl

find_behind : (test : List ℕ → Bool) (f : List ℕ → List ℕ) (xs : List (List ℕ)) → find test (map f xs) ≡ option_map f (find (λ x. test (f x)) xs)
find_behind test f [] = refl
find_behind test f (x ∷ xs) = ap (λ (o : Option (List ℕ)). cond (test (f x)) (Some (f x)) o) (find_behind test f xs) ∙ map_cond f x (find (λ y. test (f y)) xs) (test (f x))

-- the runs of a line, and the first that is shown
abbrev parts_of : List ℕ → List (List ℕ)
parts_of line = slice_split (λ c. not (is_word_byte c)) line

abbrev first_part : List ℕ → Option (List ℕ)
first_part line = find (λ part. is_shown (past_digits part)) (parts_of line)

pub shown_passes : (line part : List ℕ) → Some part ≡ first_part line → list_all is_word_byte (past_digits part) ≡ true
shown_passes line part h = word_passes (past_digits part) (and_parts (is_word (past_digits part)) (not (is_kept (past_digits part))) (find_passes (λ p. is_shown (past_digits p)) (parts_of line) part h)).0

shown_is : (rest line : List ℕ) → first_line rest ≡ line → unwrap_or (option_map past_digits (first_part line)) (codes "-") ≡ shown_word (first_line rest)
shown_is rest line e = ap (λ (o : Option (List ℕ)). unwrap_or o (codes "-")) (sym (find_behind is_shown past_digits (parts_of line))) ∙ sym (ap shown_word e)

pub word_shown : (rest line part : List ℕ) → first_line rest ≡ line → Some part ≡ first_part line → past_digits part ≡ shown_word (first_line rest)
word_shown rest line part e h = ap (λ (o : Option (List ℕ)). unwrap_or (option_map past_digits o) (codes "-")) h ∙ shown_is rest line e

pub none_shown : (rest line : List ℕ) → first_line rest ≡ line → None ≡ first_part line → codes "-" ≡ shown_word (first_line rest)
none_shown rest line e h = ap (λ (o : Option (List ℕ)). unwrap_or (option_map past_digits o) (codes "-")) h ∙ shown_is rest line e

pub record Passing (p i a o : List ℕ) : Type 0 where
  pub param : list_all is_word_byte p ≡ true
  pub iname : list_all is_word_byte i ≡ true
  pub input : list_all is_word_byte a ≡ true
  pub output : list_all is_word_byte o ≡ true

pub names_pass : (p i a o : List ℕ) → are_names (p ∷ i ∷ a ∷ o ∷ []) ≡ true → Passing p i a o
names_pass p i a o h =
    let three = front_names (p ∷ i ∷ a ∷ []) o h in
    let two = front_names (p ∷ i ∷ []) a three in
    let one = front_names (p ∷ []) i two in
    record {
      param = name_passes p (last_name [] p one);
      iname = name_passes i (last_name (p ∷ []) i two);
      input = name_passes a (last_name (p ∷ i ∷ []) a three);
      output = name_passes o (last_name (p ∷ i ∷ a ∷ []) o h);
    }

pub ok_equal : {E : Type 0} (r : Result (List ℕ) E) (x y : List ℕ) → IfOk r (λ n. n ≡ x) → x ≡ y → IfOk r (λ n. n ≡ y)
ok_equal (Ok n) x y h e = h ∙ e
ok_equal (Err f) x y h e = h
