-- The first of those that are alike, one element after the other.
use Rattle.std.proofs.Common.{◌≡◌, ℕ, ◌+◌, ◌<◌, ◌≤◌, Bool, true, false, not, cond, ◌||◌, nat_le, List, [], ◌∷◌, ◌++◌, length, take, drop, get_or, arith, refl, sym, ap, ap₂, ◌∙◌}
use Rattle.std.specs.List.{filter, list_any}
use Rattle.std.proofs.lemmas.Bool.Decides.{nat_tests}
use Rattle.std.proofs.lemmas.List.{take_more, take_all, take-append-drop, length-append}
use Rattle.std.proofs.lemmas.List.Elements.{filter-append}
use Rattle.quasi_forms.specs.Alike.{distinct, with_new}
use Rattle.quasi_forms.proofs.FloorSums.{distinct-new, distinct-again}

-- a later element that is alike is alike the first
abbrev pub Through : {X : Type 0} → (X → X → Bool) → Type 0
Through {X} same = (f g h : X) → same g h ≡ true → same f g ≡ true → same f h ≡ true

kept_here : {X : Type 0} (same : X → X → Bool) (x y g : X) (ys zs : List X) (b c : Bool) → Through same → same x g ≡ false → same x y ≡ b → same y g ≡ c → list_any (λ z. same z g) ys ≡ list_any (λ z. same z g) zs →
    list_any (λ z. same z g) (cond (not b) (y ∷ ys) ys) ≡ (c || list_any (λ z. same z g) zs)
kept_here same x y g ys zs false c through other like own rest = ap₂ (λ (p q : Bool). p || q) own rest
kept_here same x y g ys zs true false through other like own rest = rest
kept_here same x y g ys zs true true through other like own rest = absurd (let no = through x y g own like in cc)

any-kept : {X : Type 0} (same : X → X → Bool) (x g : X) (ys : List X) → Through same → same x g ≡ false → list_any (λ z. same z g) (filter (λ y. not (same x y)) ys) ≡ list_any (λ z. same z g) ys
any-kept same x g [] through other = refl
any-kept same x g (y ∷ ys) through other = kept_here same x y g (filter (λ y. not (same x y)) ys) ys (same x y) (same y g) through other refl refl (any-kept same x g ys through other)

any_case : {X : Type 0} (same : X → X → Bool) (x g : X) (ys zs : List X) (b : Bool) → Through same → same x g ≡ b → list_any (λ z. same z g) ys ≡ list_any (λ z. same z g) zs →
    (b || list_any (λ z. same z g) (filter (λ y. not (same x y)) ys)) ≡ (b || list_any (λ z. same z g) zs)
any_case same x g ys zs true through e rest = refl
any_case same x g ys zs false through e rest = any-kept same x g ys through e ∙ rest

-- something is alike one of the first of those that are alike, where it is alike one of all
pub any-distinct : {X : Type 0} (same : X → X → Bool) (g : X) (xs : List X) → Through same → list_any (λ z. same z g) (distinct same xs) ≡ list_any (λ z. same z g) xs
any-distinct same g [] through = refl
any-distinct same g (x ∷ xs) through = any_case same x g (distinct same xs) xs (same x g) through refl (any-distinct same g xs through)

-- more elements do not make less of them
abbrev Front : {X : Type 0} → (X → X → Bool) → List X → List X → Type 0
Front {X} same xs ys = (zs : List X) × (distinct same (xs ++ ys) ≡ distinct same xs ++ zs)

distinct-front : {X : Type 0} (same : X → X → Bool) (xs ys : List X) → Front same xs ys
distinct-front same [] ys = (distinct same ys, refl)
distinct-front {X} same (x ∷ xs) ys =
    let more = distinct-front same xs ys in (
      filter (λ y. not (same x y)) more.0,
      ap (λ (zs : List X). x ∷ filter (λ y. not (same x y)) zs) more.1 ∙ ap (λ (zs : List X). x ∷ zs) (filter-append (λ y. not (same x y)) (distinct same xs) more.0),
    )

front_less : {X : Type 0} (same : X → X → Bool) (xs ys zs : List X) → xs ++ ys ≡ zs → length (distinct same xs) ≤ length (distinct same zs)
front_less {X} same xs ys zs e =
    let more = distinct-front same xs ys in
    let all = ap (λ (l : List X). length (distinct same l)) e in
    let parts = ap length more.1 ∙ length-append (distinct same xs) more.0 in
    omega (arith, all, parts)

pub taken_less : {X : Type 0} (same : X → X → Bool) (xs : List X) (i : ℕ) → length (distinct same (take i xs)) ≤ length (distinct same xs)
taken_less same xs i = front_less same (take i xs) (drop i xs) xs (take-append-drop i xs)

next : {X : Type 0} (xs : List X) (i : ℕ) (g : X) → i < length xs → g ≡ get_or xs i g → take (i + 1) xs ≡ take i xs ++ g ∷ []
next {X} xs i g within is = take_more xs i g within ∙ ap (λ (x : X). take i xs ++ x ∷ []) (sym is)

pub known_again : {X : Type 0} (same : X → X → Bool) (xs known : List X) (i : ℕ) (g : X) → Through same → i < length xs → g ≡ get_or xs i g → known ≡ distinct same (take i xs) → list_any (λ x. same x g) known ≡ true → known ≡ distinct same (take (i + 1) xs)
known_again {X} same xs known i g through within is made among =
    let any : list_any (λ x. same x g) (take i xs) ≡ true = sym (any-distinct same g (take i xs) through) ∙ (ap (list_any (λ (x : X). same x g)) (sym made) ∙ among) in
    made ∙ (sym (distinct-again same (take i xs) g any) ∙ ap (distinct same) (sym (next xs i g within is)))

pub known_new : {X : Type 0} (same : X → X → Bool) (xs known made : List X) (i : ℕ) (g : X) → Through same → i < length xs → g ≡ get_or xs i g → known ≡ distinct same (take i xs) → list_any (λ x. same x g) known ≡ false →
    made ≡ known ++ g ∷ [] → made ≡ distinct same (take (i + 1) xs)
known_new {X} same xs known made i g through within is old among more =
    let any : list_any (λ x. same x g) (take i xs) ≡ false = sym (any-distinct same g (take i xs) through) ∙ (ap (list_any (λ (x : X). same x g)) (sym old) ∙ among) in
    more ∙ (ap (λ (zs : List X). zs ++ g ∷ []) old ∙ (sym (distinct-new same (take i xs) g any) ∙ ap (distinct same) (sym (next xs i g within is))))

known_case : {X : Type 0} (same : X → X → Bool) (xs known : List X) (i : ℕ) (g : X) (b : Bool) → Through same → i < length xs → g ≡ get_or xs i g → known ≡ distinct same (take i xs) → list_any (λ x. same x g) known ≡ b →
    cond b known (known ++ g ∷ []) ≡ distinct same (take (i + 1) xs)
known_case same xs known i g true through within is old among = known_again same xs known i g through within is old among
known_case same xs known i g false through within is old among = known_new same xs known (known ++ g ∷ []) i g through within is old among refl

pub known_next : {X : Type 0} (same : X → X → Bool) (xs known made : List X) (i : ℕ) (g : X) → Through same → i < length xs → g ≡ get_or xs i g → known ≡ distinct same (take i xs) → made ≡ with_new same known g → made ≡ distinct same (take (i + 1) xs)
known_next same xs known made i g through within is old more = more ∙ known_case same xs known i g (list_any (λ x. same x g) known) through within is old refl

-- those of a part are too many already
pub too_many : {X : Type 0} (same : X → X → Bool) (xs known : List X) (i most : ℕ) → known ≡ distinct same (take i xs) → most < length known → false ≡ nat_le (length (distinct same xs)) most
too_many {X} same xs known i most made full =
    let size = ap length made in
    let less = taken_less same xs i in
    let more : most < length (distinct same xs) = omega (arith, size, less, full) in
    grind (arith, nat_tests)

pub few_enough : {X : Type 0} (same : X → X → Bool) (xs known : List X) (i most : ℕ) → length xs ≤ i → known ≡ distinct same (take i xs) → length known ≤ most → true ≡ nat_le (length (distinct same xs)) most
few_enough {X} same xs known i most done made few =
    let all = ap length (made ∙ ap (distinct same) (take_all i xs done)) in
    let less : length (distinct same xs) ≤ most = omega (arith, all, few) in
    grind (arith, nat_tests)
