-- Lists of names, and places in lists.
use Rattle.std.proofs.Common.{◌≡◌, ℕ, suc, zero, Bool, true, false, not, cond, if◌then◌else◌, List, [], ◌∷◌, ◌++◌, map, length, take, slice_get, get_or, position, Option, Some, None, is_some, unwrap_or, bytes_eq, refl, sym, ap, ◌∙◌}
use Rattle.std.specs.Prelude.{flat_map}
use Rattle.std.specs.List.{list_all, list_any, filter}
use Rattle.std.proofs.lemmas.Bool.{and_parts, and_from, or_left, or_right, true≢false}
use Rattle.std.proofs.lemmas.List.Folds.{list_all-map, list_any-append}
use Rattle.std.proofs.lemmas.List.Elements.{filter-append, All-filter, All-weaker}
use Rattle.std.proofs.lemmas.List.Sums.{AllPass-from_list_all, list_all-from_AllPass}
use Rattle.std.proofs.lemmas.List.Quantifiers.{position-Some}
use Rattle.std.proofs.lemmas.Option.{slice_get-get_or, none-some, same_Some}
use Rattle.std.proofs.lemmas.Slice.Eq.{bytes_eq-Decides}
use Rattle.quasi_forms.specs.Alike.{distinct}
use Rattle.kernel_ir.specs.NameSpace.{all_differ}

-- ---- all of a list

pub all_weaker : {X : Type 0} (p q : X → Bool) → ((x : X) → p x ≡ true → q x ≡ true) → (xs : List X) → list_all p xs ≡ true → list_all q xs ≡ true
all_weaker {X} p q h xs all = list_all-from_AllPass q xs (All-weaker (λ (x : X). p x ≡ true) (λ (x : X). q x ≡ true) h xs (AllPass-from_list_all p xs all))

pub all_at : {X : Type 0} (p : X → Bool) (xs : List X) (i : ℕ) (x : X) → slice_get xs i ≡ Some x → list_all p xs ≡ true → p x ≡ true
all_at p [] i x at all = absurd (none-some x at)
all_at p (y ∷ xs) zero x at all = ap p (sym (same_Some y x at)) ∙ (and_parts (p y) (list_all p xs) all).0
all_at p (y ∷ xs) (suc i) x at all = all_at p xs i x at (and_parts (p y) (list_all p xs) all).1

pub all_filter : {X : Type 0} (p q : X → Bool) (xs : List X) → list_all p xs ≡ true → list_all p (filter q xs) ≡ true
all_filter {X} p q xs all = list_all-from_AllPass p (filter q xs) (All-filter q (λ (x : X). p x ≡ true) xs (AllPass-from_list_all p xs all))

pub all_distinct : {X : Type 0} (same : X → X → Bool) (p : X → Bool) (xs : List X) → list_all p xs ≡ true → list_all p (distinct same xs) ≡ true
all_distinct same p [] all = refl
all_distinct same p (x ∷ xs) all =
    let parts = and_parts (p x) (list_all p xs) all in
    and_from (p x) (list_all p (filter (λ y. not (same x y)) (distinct same xs))) parts.0
    (all_filter p (λ y. not (same x y)) (distinct same xs) (all_distinct same p xs parts.1))

-- each is among these
pub all_among : {X : Type 0} (same : X → X → Bool) → ((x : X) → same x x ≡ true) → (xs ys : List X)
    → ((n : X) → list_any (same n) xs ≡ true → list_any (same n) ys ≡ true) → list_all (λ n. list_any (same n) ys) xs ≡ true
all_among same itself [] ys h = refl
all_among same itself (x ∷ xs) ys h =
    and_from (list_any (same x) ys) (list_all (λ n. list_any (same n) ys) xs) (h x (or_left (same x x) (list_any (same x) xs) (itself x)))
    (all_among same itself xs ys (λ n there. h n (or_right (same n x) (list_any (same n) xs) there)))

-- ---- what is mapped

apart_test : (b c : Bool) → (b ≡ true → c ≡ true) → (if c then false else true) ≡ true → (if b then false else true) ≡ true
apart_test false c h apart = refl
apart_test true c h apart = absurd (true≢false (sym apart ∙ ap (λ (x : Bool). if x then false else true) (h refl)))

-- where what is made of them differs they differ
pub differ_unmap : {X Y : Type 0} (same : X → X → Bool) (alike : Y → Y → Bool) (f : X → Y) → ((x y : X) → same x y ≡ true → alike (f x) (f y) ≡ true)
    → (xs : List X) → all_differ alike (map f xs) ≡ true → all_differ same xs ≡ true
differ_unmap same alike f h [] differ = refl
differ_unmap same alike f h (x ∷ xs) differ =
    let apart : _ → Bool = λ y. if alike (f x) y then false else true in
    let parts = and_parts (list_all apart (map f xs)) (all_differ alike (map f xs)) differ in
    and_from (list_all (λ y. if same x y then false else true) xs) (all_differ same xs)
    (all_weaker (λ y. if alike (f x) (f y) then false else true) (λ y. if same x y then false else true)
    (λ y. apart_test (same x y) (alike (f x) (f y)) (h x y)) xs (sym (list_all-map apart f xs) ∙ parts.0))
    (differ_unmap same alike f h xs parts.1)

-- ---- places

pub name_at : (names : List (List ℕ)) (n : List ℕ) (i : ℕ) → position (bytes_eq n) names ≡ Some i → slice_get names i ≡ Some n
name_at names n i found =
    let here = position-Some (bytes_eq n) names i n found in
    slice_get-get_or names i n here.0 ∙ ap Some (sym ((bytes_eq-Decides n (get_or names i n)).0 here.1))

named_test : (o : Option ℕ) (names : List (List ℕ)) (n : List ℕ) → position (bytes_eq n) names ≡ o → is_some o ≡ true → slice_get names (unwrap_or o 0) ≡ Some n
named_test None names n found some = absurd (true≢false (sym some))
named_test (Some i) names n found some = name_at names n i found

-- a name that is there stands at its number
pub named : (names : List (List ℕ)) (n : List ℕ) → is_some (position (bytes_eq n) names) ≡ true
    → slice_get names (unwrap_or (position (bytes_eq n) names) 0) ≡ Some n
named names n there = named_test (position (bytes_eq n) names) names n refl there

pub passes_in : {X Y : Type 0} (f : X → List Y) (p : Y → Bool) (xs : List X) (i : ℕ) (x : X) → slice_get xs i ≡ Some x → list_any p (f x) ≡ true
    → list_any p (flat_map f xs) ≡ true
passes_in f p [] i x at here = absurd (none-some x at)
passes_in f p (y ∷ xs) zero x at here =
    list_any-append p (f y) (flat_map f xs) ∙ or_left (list_any p (f y)) (list_any p (flat_map f xs)) (ap (λ z. list_any p (f z)) (same_Some y x at) ∙ here)
passes_in f p (y ∷ xs) (suc i) x at here =
    list_any-append p (f y) (flat_map f xs) ∙ or_right (list_any p (f y)) (list_any p (flat_map f xs)) (passes_in f p xs i x at here)

place_test : {X : Type 0} (b : Bool) (y : X) (ys : List X) (before : List X) (x : X) → slice_get ys (length before) ≡ Some x
    → slice_get (cond b (y ∷ ys) ys) (length (cond b (y ∷ before) before)) ≡ Some x
place_test true y ys before x at = at
place_test false y ys before x at = at

-- what passes stands, among those that pass, behind as many as pass before it
pub kept_place : {X : Type 0} (p : X → Bool) (xs : List X) (i : ℕ) (x : X) → slice_get xs i ≡ Some x → p x ≡ true
    → slice_get (filter p xs) (length (filter p (take i xs))) ≡ Some x
kept_place p [] i x at here = absurd (none-some x at)
kept_place {X} p (y ∷ xs) zero x at here = ap (λ (b : Bool). slice_get (cond b (y ∷ filter p xs) (filter p xs)) 0) (ap p (same_Some y x at) ∙ here) ∙ at
kept_place p (y ∷ xs) (suc i) x at here = place_test (p y) y (filter p xs) (filter p (take i xs)) x (kept_place p xs i x at here)

-- ---- the first of those that are alike, of two lists

-- those of the second list that are like none of the first
abbrev pub behind : {X : Type 0} → (X → X → Bool) → List X → List X → List X
behind same [] ys = distinct same ys
behind same (x ∷ xs) ys = filter (λ y. not (same x y)) (behind same xs ys)

pub distinct-append : {X : Type 0} (same : X → X → Bool) (xs ys : List X) → distinct same (xs ++ ys) ≡ distinct same xs ++ behind same xs ys
distinct-append same [] ys = refl
distinct-append {X} same (x ∷ xs) ys =
    ap (λ (zs : List X). x ∷ zs) (ap (λ (zs : List X). filter (λ y. not (same x y)) zs) (distinct-append same xs ys)
    ∙ filter-append (λ y. not (same x y)) (distinct same xs) (behind same xs ys))
