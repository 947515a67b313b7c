-- What an open and a read do to the readers of a host in memory.
use Rattle.std.proofs.Common.{◌≡◌, ◌≢◌, ◌+◌, ◌<◌, ℕ, zero, suc, List, [], ◌∷◌, ◌++◌, Bool, true, false, Some, None, Option, length, take, get_or, subst, length-append, refl, ap, sym, ◌∙◌, arith, cond, inl, inr}
use Rattle.std.specs.Prelude.{Contains, slice_set, find, position, nat_lt, string_bytes, IsSome, IsNone, IsTrue, IfSome, is_some, is_none, ◌||◌, nat_le, slice_get}
use Rattle.std.specs.Option.{option_map}
use Rattle.std.specs.List.{position_or_len}
use Rattle.std.specs.Str.{bytes_eq}
use Rattle.std.specs.Io.KnownBytes.{prepend_known}
use Rattle.std.proofs.lemmas.List.{drop-drop, take-append-drop}
use Rattle.std.proofs.lemmas.Option.{slice_get_cases, slice_get-get_or}
use Rattle.std.proofs.lemmas.Bool.Decides.{nat_tests}
use Rattle.std.proofs.lemmas.List.Folds.{find_at}
use Rattle.std.proofs.lemmas.List.Elements.{Contains-push_cases}
use Rattle.std.proofs.lemmas.Bool.{lt-ltb}
use mathlib.Core.Bool.{true≢false}
use Rattle.host_io.specs.Told.{Told, bytes_of, is_there, next_count}
use Rattle.host_io.specs.Files.{NamedFile, entries, has_name, numbers_below}
use Rattle.host_io.specs.Reader.{bytes_at, left_of, unread_of}
use Rattle.host_io.specs.Setup.{Setup, is_listed, open_fails, sure_room_of}
use Rattle.host_io.specs.declared.memory.Reader.{Reader}

pub numbers_below-Contains : (n x : ℕ) → Contains (numbers_below n) x → x < n
numbers_below-Contains zero x held = absurd (omega (arith, held.1))
numbers_below-Contains (suc n) x held =
    elim (Contains-push_cases (numbers_below n) n x held) [ inl below ↦ omega (arith, numbers_below-Contains n x below) | inr same ↦ omega (arith, same) ]

pub length-numbers_below : (n : ℕ) → length (numbers_below n) ≡ n
length-numbers_below zero = refl
length-numbers_below (suc n) = omega (arith, length-append (numbers_below n) (n ∷ []), length-numbers_below n)

slice_get-set_same : {A : Type 0} (xs : List A) (i : ℕ) (x : A) → i < length xs → slice_get (slice_set xs i x) i ≡ Some x
slice_get-set_same [] i x within = absurd (omega (arith, within))
slice_get-set_same (y ∷ ys) zero x within = refl
slice_get-set_same (y ∷ ys) (suc i) x within = slice_get-set_same ys i x (omega (arith, within))

slice_get-set_other : {A : Type 0} (xs : List A) (i j : ℕ) (x : A) → j ≢ i → slice_get (slice_set xs i x) j ≡ slice_get xs j
slice_get-set_other [] i j x apart = refl
slice_get-set_other (y ∷ ys) zero zero x apart = absurd (apart refl)
slice_get-set_other (y ∷ ys) zero (suc j) x apart = refl
slice_get-set_other (y ∷ ys) (suc i) zero x apart = refl
slice_get-set_other (y ∷ ys) (suc i) (suc j) x apart = slice_get-set_other ys i j x (λ e. apart (ap suc e))

-- a file found by its place is the file found by its name
find-entries : (files : List NamedFile) (name : List ℕ) → bytes_of (entries files) name ≡ option_map (λ (file : NamedFile). file.1.items) (find (has_name name) files)
find-entries [] name = refl
find-entries (file ∷ files) name =
    elim (has_name name file) as (λ (found : Bool). option_map (λ (entry : List ℕ × List ℕ). entry.1) (cond found (Some (string_bytes file.0, file.1.items)) (find (λ entry. bytes_eq entry.0 name) (entries files))) ≡ option_map (λ (file : NamedFile). file.1.items) (cond found (Some file) (find (has_name name) files)))
    [ true ↦ refl | false ↦ find-entries files name ]

position_is : {A : Type 0} (p : A → Bool) (xs : List A) (i : ℕ) → position p xs ≡ Some i → position_or_len p xs ≡ i
position_is p xs i found = grind (arith, found)

position_within : {A : Type 0} (p : A → Bool) (xs : List A) (i : ℕ) → position p xs ≡ Some i → i < length xs
position_within p xs i found = grind (arith, nat_tests, found)

find-position : {A : Type 0} (p : A → Bool) (xs : List A) (i : ℕ) → position p xs ≡ Some i → find p xs ≡ slice_get xs i
find-position p xs i found = find_at p xs ∙ ap (λ (k : ℕ). slice_get xs k) (position_is p xs i found)

is_some-slice_get : {A B : Type 0} (f : A → B) (xs : List A) (i : ℕ) → is_some (option_map f (slice_get xs i)) ≡ is_some (cond (nat_lt i (length xs)) (Some i) None)
is_some-slice_get f xs i =
    elim (slice_get_cases xs i).1 [
      | inl at_place ↦ let test : nat_lt i (length xs) ≡ true = lt-ltb _ _ at_place.1 in rw (at_place.2, test) refl
      | inr past ↦ let test : nat_lt i (length xs) ≡ false = grind (arith, nat_tests, past.0) in rw (past.1, test) refl
    ]

-- a file is there exactly where its place was found
pub is_there-position : (files : List NamedFile) (name : List ℕ) → is_there (Some (entries files)) name ≡ is_some (position (has_name name) files)
is_there-position files name =
    rw (find-entries files name, find_at (has_name name) files) (is_some-slice_get (λ file. file.1.items) files (position_or_len (has_name name) files))

-- whether an open fails, by the place that was found
pub open_fails-place : (setup : Setup) (told : Told) (name : List ℕ) (files : List NamedFile) (opened number : ℕ) (fails : Bool) → told.files ≡ Some (entries files) → told.numbers ≡ numbers_below opened → number ≡ next_count setup.opens →
    fails ≡ ((is_listed setup.fail_open number || nat_le 4 opened) || is_none (position (has_name name) files)) →
    fails ≡ open_fails setup told name
open_fails-place setup told name files opened number fails the_files the_numbers counted found =
    rw (the_files, the_numbers, length-numbers_below opened, is_there-position files name, sym counted) found

-- a host whose lists are empty fails for no reason of its own
pub open_cause : (opens reads writes : List ℕ) (room number : ℕ) (full missing : Bool) → true ≡ ((is_listed opens number || full) || missing) → IfSome (sure_room_of opens reads writes room) (λ _. IsTrue (full || missing))
open_cause [] [] [] room number full missing fails = sym fails
open_cause [] [] (x ∷ xs) room number full missing fails = tt
open_cause [] (x ∷ xs) writes room number full missing fails = tt
open_cause (x ∷ xs) reads writes room number full missing fails = tt

pub read_cause : (opens reads writes : List ℕ) (room number : ℕ) → true ≡ is_listed reads number → IsNone (sure_room_of opens reads writes room)
read_cause [] [] [] room number fails = absurd (true≢false fails)
read_cause [] [] (x ∷ xs) room number fails = refl
read_cause [] (x ∷ xs) writes room number fails = refl
read_cause (x ∷ xs) reads writes room number fails = refl

pub write_cause : (opens reads writes : List ℕ) (room number used : ℕ) → true ≡ (is_listed writes number || nat_le room used) → IfSome (sure_room_of opens reads writes room) (λ room. room < used + 1)
write_cause [] [] [] room number used fails = grind (arith, nat_tests)
write_cause [] [] (x ∷ xs) room number used fails = tt
write_cause [] (x ∷ xs) writes room number used fails = tt
write_cause (x ∷ xs) reads writes room number used fails = tt

-- the file that was found, whole, as its reader has it left
left_of-new : (files : List NamedFile) (name : List ℕ) (place : ℕ) → position (has_name name) files ≡ Some place → Some (left_of files (record { place = place; position = 0 })) ≡ bytes_of (entries files) name
left_of-new files name place found =
    rw (find-entries files name, find-position (has_name name) files place found)
    (elim (slice_get_cases files place).1 [ inl at_place ↦ rw at_place.2 refl | inr past ↦ absurd (omega (arith, past.0, position_within (has_name name) files place found)) ])

pub left_of-new-some : (files : List NamedFile) (name : List ℕ) (place : ℕ) → position (has_name name) files ≡ Some place → IsSome (bytes_of (entries files) name)
left_of-new-some files name place found = subst (λ (bytes : Option (List ℕ)). IsSome bytes) (left_of-new files name place found) refl

pub unread_of-new : (files : List NamedFile) (readers : List Reader) (name : List ℕ) (opened place : ℕ) → opened < length readers → position (has_name name) files ≡ Some place →
    unread_of files (slice_set readers opened (record { place = place; position = 0 })) (opened + 1) opened ≡ bytes_of (entries files) name
unread_of-new files readers name opened place within found =
    let test : nat_lt opened (opened + 1) ≡ true = lt-ltb _ _ (omega arith) in
    rw (test, slice_get-set_same readers opened (record { place = place; position = 0 }) within) (left_of-new files name place found)

pub unread_of-new_other : (files : List NamedFile) (readers : List Reader) (opened other : ℕ) (reader : Reader) → other ≢ opened →
    unread_of files (slice_set readers opened reader) (opened + 1) other ≡ unread_of files readers opened other
unread_of-new_other files readers opened other reader apart =
    let test : nat_lt other (opened + 1) ≡ nat_lt other opened = grind (arith, nat_tests) in
    rw (test, slice_get-set_other readers opened other reader apart)

-- the rest that an open file's reader has left is what is left under its number
pub unread_of-rest : (files : List NamedFile) (readers : List Reader) (opened number : ℕ) (start : Reader) (rest : List ℕ) → number < opened → number < length readers → rest ≡ left_of files (get_or readers number start) →
    unread_of files readers opened number ≡ Some rest
unread_of-rest files readers opened number start rest below within left =
    let test : nat_lt number opened ≡ true = lt-ltb _ _ below in rw (test, slice_get-get_or readers number start within, left)

-- a read that takes the first bytes of that rest
pub unread_of-read : (files : List NamedFile) (readers : List Reader) (opened number : ℕ) (start : Reader) (rest taken : List ℕ) (count : ℕ) →
    number < opened → number < length readers → rest ≡ left_of files (get_or readers number start) → taken ≡ take count rest →
    unread_of files readers opened number ≡ prepend_known taken (unread_of files (slice_set readers number (record (get_or readers number start) { position = (get_or readers number start).position + count })) opened number)
unread_of-read files readers opened number start rest taken count below within left takes =
    let test : nat_lt number opened ≡ true = lt-ltb _ _ below in
    let reader : Reader = get_or readers number start in
    unread_of-rest files readers opened number start rest below within left ∙ rw (test, slice_get-set_same readers number (record reader { position = reader.position + count }) within, takes, left)
    (ap Some (sym (take-append-drop count (left_of files reader)) ∙ ap (λ (bytes : List ℕ). take count (left_of files reader) ++ bytes) (drop-drop count reader.position (bytes_at files reader.place))))

pub unread_of-read_other : (files : List NamedFile) (readers : List Reader) (opened number other : ℕ) (reader : Reader) → other ≢ number →
    unread_of files (slice_set readers number reader) opened other ≡ unread_of files readers opened other
unread_of-read_other files readers opened number other reader apart = rw (slice_get-set_other readers number other reader apart)
