-- Lists of different names.
use Rattle.std.proofs.Common.{◌≡◌, ℕ, Bool, true, false, not, ◌&&◌, ◌||◌, List, [], ◌∷◌, ◌++◌, sym, ◌∙◌, refl, map}
use Rattle.std.specs.Str.{bytes_eq}
use Rattle.std.proofs.lemmas.List.Folds.{list_any-append}
use Rattle.std.proofs.lemmas.Bool.{false≢true}
use Rattle.std.proofs.lemmas.Slice.Eq.{bytes_eq-Decides}
use Rattle.std.specs.List.{list_all, list_any}
use Rattle.first_form.specs.Names.{is_name}
use Rattle.first_form.specs.Form.{are_names, are_different}
use denote.Ref.{Bor}

same_tests : (a b : Bool) → (a ≡ true → b ≡ true) → (b ≡ true → a ≡ true) → a ≡ b
same_tests true b h k = sym (h refl)
same_tests false true h k = k refl
same_tests false false h k = refl

eq_swap : (x y : List ℕ) → bytes_eq x y ≡ bytes_eq y x
eq_swap x y = same_tests (bytes_eq x y) (bytes_eq y x) (λ h. (bytes_eq-Decides y x).1 (sym ((bytes_eq-Decides x y).0 h))) (λ h. (bytes_eq-Decides x y).1 (sym ((bytes_eq-Decides y x).0 h)))

push_tests : (x y z e : Bool) → (not (x || (e || false)) && (y && not z)) ≡ ((not x && y) && not (e || z))
push_tests true y z e = refl
push_tests false true z true = refl
push_tests false false z true = refl
push_tests false true z false = refl
push_tests false false z false = refl

different_push : (names : List (List ℕ)) (name : List ℕ) → are_different (names ++ name ∷ []) ≡ (are_different names && not (list_any (bytes_eq name) names))
different_push [] name = refl
different_push (x ∷ xs) name =
    rw (list_any-append (bytes_eq x) xs (name ∷ []), different_push xs name, eq_swap x name) (push_tests (list_any (bytes_eq x) xs) (are_different xs) (list_any (bytes_eq name) xs) (bytes_eq name x))

and_swap : (a b : Bool) (c d : Bool) → ((a && b) && (c && d)) ≡ ((a && c) && (b && d))
and_swap true true c d = refl
and_swap false b c d = refl
and_swap true false true d = refl
and_swap true false false d = refl

one : (a : Bool) → (a && true) ≡ (true && a)
one true = refl
one false = refl

assoc : (a b c : Bool) → (a && (b && c)) ≡ ((a && b) && c)
assoc true b c = refl
assoc false b c = refl

all_push : (test : List ℕ → Bool) (names : List (List ℕ)) (name : List ℕ) → list_all test (names ++ name ∷ []) ≡ (list_all test names && test name)
all_push test [] name = one (test name)
all_push test (x ∷ xs) name = rw (all_push test xs name) (assoc (test x) (list_all test xs) (test name))

names_push : (names : List (List ℕ)) (name : List ℕ) → are_names (names ++ name ∷ []) ≡ (are_names names && (is_name name && not (list_any (bytes_eq name) names)))
names_push names name =
    rw (all_push is_name names name, different_push names name) (and_swap (list_all is_name names) (is_name name) (are_different names) (not (list_any (bytes_eq name) names)))

joined_tests : (a b c : Bool) → a ≡ true → b ≡ true → c ≡ false → (a && (b && not c)) ≡ true
joined_tests true true false h k l = refl
joined_tests false b c h k l = absurd (false≢true h)
joined_tests true false c h k l = absurd (false≢true k)
joined_tests true true true h k l = absurd (false≢true (sym l))

-- the test that a loop over references computes
any_behind : (name : List ℕ) (others : List (Bor (List ℕ))) → list_any (λ other. bytes_eq name other.now) others ≡ list_any (bytes_eq name) (map (λ other. other.now) others)
any_behind name [] = refl
any_behind name (x ∷ xs) = rw (any_behind name xs) refl

pub names_more : (declared : List (Bor (List ℕ))) (name : List ℕ) → are_names (map (λ d. d.now) declared) ≡ true → is_name name ≡ true → list_any (λ d. bytes_eq name d.now) declared ≡ false → are_names (map (λ d. d.now) declared ++ name ∷ []) ≡ true
names_more declared name h k l =
    rw (names_push (map (λ d. d.now) declared) name) (joined_tests (are_names (map (λ d. d.now) declared)) (is_name name) (list_any (bytes_eq name) (map (λ d. d.now) declared)) h k (sym (any_behind name declared) ∙ l))

parted_tests : (a b c : Bool) → (a && (b && not c)) ≡ true → (b ≡ true) × (c ≡ false)
parted_tests true true false h = (refl, refl)
parted_tests false b c h = absurd (false≢true h)
parted_tests true false c h = absurd (false≢true h)
parted_tests true true true h = absurd (false≢true h)

pub last_name : (names : List (List ℕ)) (name : List ℕ) → are_names (names ++ name ∷ []) ≡ true → is_name name ≡ true
last_name names name h = (parted_tests (are_names names) (is_name name) (list_any (bytes_eq name) names) (sym (names_push names name) ∙ h)).0

pub not_among : (declared : List (Bor (List ℕ))) (name : List ℕ) → are_names (map (λ d. d.now) declared ++ name ∷ []) ≡ true → list_any (λ d. bytes_eq name d.now) declared ≡ false
not_among declared name h = any_behind name declared ∙ (parted_tests (are_names (map (λ d. d.now) declared)) (is_name name) (list_any (bytes_eq name) (map (λ d. d.now) declared)) (sym (names_push (map (λ d. d.now) declared) name) ∙ h)).1

pair_tests : (a b e : Bool) → ((a && (b && true)) && (not (e || false) && (not false && true))) ≡ true → (a ≡ true) × (b ≡ true) × (e ≡ false)
pair_tests true true false h = (refl, refl, refl)
pair_tests true true true h = absurd (false≢true h)
pair_tests true false e h = absurd (false≢true h)
pair_tests false b e h = absurd (false≢true h)

pub pair_parts : (x y : List ℕ) → are_names (x ∷ y ∷ []) ≡ true → (is_name x ≡ true) × (is_name y ≡ true) × (bytes_eq x y ≡ false)
pair_parts x y h = pair_tests (is_name x) (is_name y) (bytes_eq x y) h

pair_joined : (a b e : Bool) → a ≡ true → b ≡ true → (e || false) ≡ false → ((a && (b && true)) && (not (e || false) && (not false && true))) ≡ true
pair_joined true true false h k l = refl
pair_joined true true true h k l = absurd (false≢true (sym l))
pair_joined true false e h k l = absurd (false≢true k)
pair_joined false b e h k l = absurd (false≢true h)

pub pair_made : (x y : List ℕ) → is_name x ≡ true → is_name y ≡ true → (bytes_eq x y || false) ≡ false → are_names (x ∷ y ∷ []) ≡ true
pair_made x y h k l = pair_joined (is_name x) (is_name y) (bytes_eq x y) h k l

or_not : (e : Bool) → e ≡ false → (e || false) ≡ true → ⊥
or_not true h l = false≢true (sym h)
or_not false h l = false≢true l

pub pair_not : (x y : List ℕ) → are_names (x ∷ y ∷ []) ≡ true → (bytes_eq x y || false) ≡ true → ⊥
pair_not x y h l = or_not (bytes_eq x y) (pair_parts x y h).2 l

front_tests : (a b c : Bool) → (a && (b && not c)) ≡ true → a ≡ true
front_tests true b c h = refl
front_tests false b c h = absurd (false≢true h)

pub front_names : (names : List (List ℕ)) (name : List ℕ) → are_names (names ++ name ∷ []) ≡ true → are_names names ≡ true
front_names names name h = front_tests (are_names names) (is_name name) (list_any (bytes_eq name) names) (sym (names_push names name) ∙ h)
