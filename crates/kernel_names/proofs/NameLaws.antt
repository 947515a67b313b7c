-- Distinct names, and their numbers.
use Rattle.std.proofs.Common.{◌≡◌, ℕ, zero, suc, ◌+◌, ◌-◌, ◌<◌, ◌^◌, arith, Bool, true, false, not, cond, ◌||◌, if◌then◌else◌, List, [], ◌∷◌, ◌++◌, map, length, take, drop, slice_get, get_or, Option, Some, None, refl, sym, ap, subst, ◌∙◌, bytes_eq, is_some, append_assoc}
use Rattle.std.specs.Prelude.{nat_lt}
use Rattle.std.specs.List.{list_any, filter, position, position_or_len, IsDistinct, AllByRecursion}
use Rattle.std.proofs.lemmas.Cmp.{nat_list_eq_equiv}
use Rattle.std.proofs.lemmas.List.Folds.{list_any_at}
use Rattle.std.proofs.lemmas.List.Sums.{position_or_len_is}
use Rattle.std.proofs.lemmas.Option.{slice_get_within, get_or_from_slice_get}
use Rattle.std.proofs.lemmas.Bool.{lt-ltb, ltb-true, le-ltb, ltb-false}
use Rattle.std.proofs.lemmas.Slice.Eq.{bytes_eq-Decides}
use Rattle.std.proofs.lemmas.List.{length-append, take_more, drop_more}
use Rattle.std.proofs.lemmas.Map.Keys.{IsDistinct-push, IsDistinct-tail, IsDistinct-head}
use Rattle.affine_rows.proofs.NameSets.{any_map}
use Rattle.quasi_forms.specs.Alike.{distinct}
use Rattle.quasi_forms.proofs.FloorSums.{distinct-new, distinct-again}
use Rattle.kernel_names.specs.Numbered.{IsNumbered}
use Rattle.kernel_names.specs.Lines.{repeated_behind}
use Rattle.kernel_names.specs.Ids.{taken_behind}

-- ---- texts from either side

pub either_side : (x y : List ℕ) → bytes_eq x y ≡ bytes_eq y x
either_side = nat_list_eq_equiv.symm

any_side : {X : Type 0} (f : X → List ℕ) (n : List ℕ) (xs : List X) → list_any (λ x. bytes_eq (f x) n) xs ≡ list_any (λ x. bytes_eq n (f x)) xs
any_side f n [] = refl
any_side f n (x ∷ xs) = ap (λ (b : Bool). b || list_any (λ y. bytes_eq (f y) n) xs) (either_side (f x) n) ∙ ap (λ (b : Bool). bytes_eq n (f x) || b) (any_side f n xs)

-- ---- a name is among names exactly where it is among the distinct ones

filter_test : (b : Bool) (n x y : List ℕ) (ys : List (List ℕ)) (rest : Bool) → bytes_eq x y ≡ b → bytes_eq n x ≡ false → list_any (bytes_eq n) ys ≡ rest → list_any (bytes_eq n) (cond (not b) (y ∷ ys) ys) ≡ (bytes_eq n y || rest)
filter_test false n x y ys rest p q h = ap (λ (b : Bool). bytes_eq n y || b) h
filter_test true n x y ys rest p q h =
    let same = (bytes_eq-Decides x y).0 p in
    let differs = subst (λ (z : List ℕ). bytes_eq n z ≡ false) same q in
    h ∙ ap (λ (b : Bool). b || rest) (sym differs)

any_filter : (n x : List ℕ) (ys : List (List ℕ)) → bytes_eq n x ≡ false → list_any (bytes_eq n) (filter (λ y. not (bytes_eq x y)) ys) ≡ list_any (bytes_eq n) ys
any_filter n x [] h = refl
any_filter n x (y ∷ ys) h = filter_test (bytes_eq x y) n x y (filter (λ z. not (bytes_eq x z)) ys) (list_any (bytes_eq n) ys) refl h (any_filter n x ys h)

head_test : (b : Bool) (p q : Bool) → (b ≡ false → p ≡ q) → (b || p) ≡ (b || q)
head_test true p q h = refl
head_test false p q h = h refl

pub any_distinct : (n : List ℕ) (xs : List (List ℕ)) → list_any (bytes_eq n) (distinct bytes_eq xs) ≡ list_any (bytes_eq n) xs
any_distinct n [] = refl
any_distinct n (x ∷ xs) = head_test (bytes_eq n x) _ _ (λ h. any_filter n x (distinct bytes_eq xs) h ∙ any_distinct n xs)

-- ---- one more name

insert_test : (b : Bool) (xs : List (List ℕ)) (n : List ℕ) → list_any (bytes_eq n) xs ≡ b → (if b then distinct bytes_eq xs else (distinct bytes_eq xs ++ n ∷ [])) ≡ distinct bytes_eq (xs ++ n ∷ [])
insert_test true xs n h = sym (distinct-again bytes_eq xs n (any_side (λ x. x) n xs ∙ h))
insert_test false xs n h = sym (distinct-new bytes_eq xs n (any_side (λ x. x) n xs ∙ h))

pub inserted : (xs : List (List ℕ)) (n : List ℕ) (old new : List (List ℕ)) → old ≡ distinct bytes_eq xs → new ≡ (if list_any (bytes_eq n) old then old else (old ++ n ∷ [])) → new ≡ distinct bytes_eq (xs ++ n ∷ [])
inserted xs n old new before is =
    is ∙ (ap (λ (o : List (List ℕ)). if list_any (bytes_eq n) o then o else (o ++ n ∷ [])) before
    ∙ (ap (λ (b : Bool). if b then distinct bytes_eq xs else (distinct bytes_eq xs ++ n ∷ [])) (any_distinct n xs) ∙ insert_test (list_any (bytes_eq n) xs) xs n refl))

-- ---- the distinct by a name

map_test : {X : Type 0} (f : X → List ℕ) (b : Bool) (y : X) (ys : List X) (rest : List (List ℕ)) → map f ys ≡ rest → map f (cond b (y ∷ ys) ys) ≡ cond b (f y ∷ rest) rest
map_test f true y ys rest h = ap (λ (zs : List (List ℕ)). f y ∷ zs) h
map_test f false y ys rest h = h

map_filter : {X : Type 0} (f : X → List ℕ) (p : List ℕ → Bool) (xs : List X) → map f (filter (λ x. p (f x)) xs) ≡ filter p (map f xs)
map_filter f p [] = refl
map_filter f p (x ∷ xs) = map_test f (p (f x)) x (filter (λ y. p (f y)) xs) (filter p (map f xs)) (map_filter f p xs)

pub map_distinct : {X : Type 0} (f : X → List ℕ) (xs : List X) → map f (distinct (λ a b. bytes_eq (f a) (f b)) xs) ≡ distinct bytes_eq (map f xs)
map_distinct f [] = refl
map_distinct f (x ∷ xs) =
    ap (λ (zs : List (List ℕ)). f x ∷ zs) (map_filter f (λ n. not (bytes_eq (f x) n)) (distinct (λ a b. bytes_eq (f a) (f b)) xs)
    ∙ ap (λ (zs : List (List ℕ)). filter (λ n. not (bytes_eq (f x) n)) zs) (map_distinct f xs))

-- whether a name is among those of the distinct ones
pub any_named : {X : Type 0} (f : X → List ℕ) (n : List ℕ) (xs : List X) → list_any (bytes_eq n) (map f (distinct (λ a b. bytes_eq (f a) (f b)) xs)) ≡ list_any (λ x. bytes_eq (f x) n) xs
any_named f n xs =
    ap (λ (ns : List (List ℕ)). list_any (bytes_eq n) ns) (map_distinct f xs) ∙ (any_distinct n (map f xs) ∙ (sym (any_map f (bytes_eq n) xs) ∙ sym (any_side f n xs)))

-- ---- numbers

suc_test : (r : Bool) (a b : ℕ) → nat_lt a b ≡ r → nat_lt (1 + a) (suc b) ≡ r
suc_test true a b h = let less = ltb-true a b h in lt-ltb (1 + a) (suc b) (omega arith)
suc_test false a b h = let most = ltb-false a b h in le-ltb (1 + a) (suc b) (omega arith)

found_test : (b : Bool) (at n : ℕ) (rest : Bool) → nat_lt at n ≡ rest → nat_lt (cond (not b) (1 + at) 0) (suc n) ≡ (b || rest)
found_test true at n rest h = lt-ltb 0 (suc n) (omega arith)
found_test false at n rest h = suc_test (nat_lt at n) at n refl ∙ h

-- there is a place exactly where there is an element
pub is_found : {X : Type 0} (p : X → Bool) (xs : List X) → nat_lt (position_or_len p xs) (length xs) ≡ list_any p xs
is_found p [] = refl
is_found p (x ∷ xs) = found_test (p x) (position_or_len p xs) (length xs) (list_any p xs) (is_found p xs)

some_test : (b : Bool) (at : ℕ) → is_some (cond b (Some at) None) ≡ b
some_test true at = refl
some_test false at = refl

pub is_some-position : {X : Type 0} (p : X → Bool) (xs : List X) → is_some (position p xs) ≡ list_any p xs
is_some-position p xs = some_test (nat_lt (position_or_len p xs) (length xs)) (position_or_len p xs) ∙ is_found p xs

pub position_none : (names : List (List ℕ)) (n : List ℕ) → list_any (bytes_eq n) names ≡ false → None ≡ position (bytes_eq n) names
position_none names n h = sym (ap (λ (b : Bool). cond b (Some (position_or_len (bytes_eq n) names)) None) (is_found (bytes_eq n) names ∙ h))

apart_at : (m : List ℕ) (ms : List (List ℕ)) (i : ℕ) (d : List ℕ) → i < length ms → AllByRecursion (λ y. bytes_eq m y ≡ false) ms → bytes_eq (get_or ms i d) m ≡ false
apart_at m [] i d within h = absurd (omega arith)
apart_at m (y ∷ ms) zero d within h = either_side y m ∙ h.0
apart_at m (y ∷ ms) (suc i) d within h = apart_at m ms i d (omega arith) h.1

apart : (names : List (List ℕ)) (i k : ℕ) (d : List ℕ) → IsDistinct bytes_eq names → i < length names → k < i → bytes_eq (get_or names i d) (get_or names k d) ≡ false
apart [] i k d h within before = absurd (omega arith)
apart (m ∷ ms) zero k d h within before = absurd (omega arith)
apart (m ∷ ms) (suc i) zero d h within before = apart_at m ms i d (omega arith) (IsDistinct-head bytes_eq m ms h)
apart (m ∷ ms) (suc i) (suc k) d h within before = apart ms i k d (IsDistinct-tail bytes_eq m ms h) (omega arith) (omega arith)

-- a name stands at one place alone
pub position_there : (names : List (List ℕ)) (n : List ℕ) (at : ℕ) → IsDistinct bytes_eq names → slice_get names at ≡ Some n → Some at ≡ position (bytes_eq n) names
position_there names n at differ there =
    let within = slice_get_within names at n there in
    let here = get_or_from_slice_get names at n n there in
    let same = subst (λ (m : List ℕ). bytes_eq n m ≡ true) (sym here) ((bytes_eq-Decides n n).1 refl) in
    let first : position_or_len (bytes_eq n) names ≡ at = position_or_len_is (bytes_eq n) names at n (omega arith)
    (λ k before. subst (λ (m : List ℕ). bytes_eq m (get_or names k n) ≡ false) here (apart names at k n differ within before)) (λ in_bounds. same) in
    sym (ap (λ (b : Bool). cond b (Some (position_or_len (bytes_eq n) names)) None) (is_found (bytes_eq n) names ∙ list_any_at (bytes_eq n) names at n within same) ∙ ap Some first)

-- ---- names that have numbers

pub numbered_none : IsNumbered []
unfolding IsDistinct
numbered_none = record { distinct = tt; few = omega arith }

numbered_test : (b : Bool) (names : List (List ℕ)) (n : List ℕ) → IsNumbered names → length names < 2 ^ 32 - 1 → list_any (bytes_eq n) names ≡ b → IsNumbered (if b then names else (names ++ n ∷ []))
numbered_test true names n h few is = h
numbered_test false names n h few is = record {
  distinct = IsDistinct-push nat_list_eq_equiv names n h.distinct is;
  few = rw (length-append names (n ∷ [])) (omega arith);
}

pub numbered_more : (names new : List (List ℕ)) (n : List ℕ) → IsNumbered names → length names < 2 ^ 32 - 1 → new ≡ (if list_any (bytes_eq n) names then names else (names ++ n ∷ [])) → IsNumbered new
numbered_more names new n h few is = subst IsNumbered (sym is) (numbered_test (list_any (bytes_eq n) names) names n h few refl)

-- ---- the next name of a list

pub next_take : {X : Type 0} (xs : List X) (i : ℕ) (x : X) → i < length xs → x ≡ get_or xs i x → take (i + 1) xs ≡ take i xs ++ x ∷ []
next_take {X} xs i x within is = take_more xs i x within ∙ ap (λ (y : X). take i xs ++ y ∷ []) (sym is)

pub next_drop : {X : Type 0} (xs : List X) (i : ℕ) (x : X) → i < length xs → x ≡ get_or xs i x → drop i xs ≡ x ∷ drop (i + 1) xs
next_drop {X} xs i x within is = drop_more xs i x within ∙ ap (λ (y : X). y ∷ drop (i + 1) xs) (sym is)

-- a list that is added is added name by name
pub added_more : (before names : List (List ℕ)) (i : ℕ) (n : List ℕ) (old new : List (List ℕ)) → i < length names → n ≡ get_or names i n → old ≡ distinct bytes_eq (before ++ take i names)
    → new ≡ (if list_any (bytes_eq n) old then old else (old ++ n ∷ [])) → new ≡ distinct bytes_eq (before ++ take (i + 1) names)
added_more before names i n old new within is h made =
    inserted (before ++ take i names) n old new h made
    ∙ ap (λ (xs : List (List ℕ)). distinct bytes_eq xs) (append_assoc before (take i names) (n ∷ []) ∙ ap (λ (xs : List (List ℕ)). before ++ xs) (sym (next_take names i n within is)))

is_among_distinct : (xs old : List (List ℕ)) (n : List ℕ) → old ≡ distinct bytes_eq xs → list_any (bytes_eq n) old ≡ list_any (bytes_eq n) xs
is_among_distinct xs old n h = ap (λ (ns : List (List ℕ)). list_any (bytes_eq n) ns) h ∙ any_distinct n xs

-- one more name is repeated or not
repeated_at : (names : List (List ℕ)) (i : ℕ) (n : List ℕ) (found : Bool) (old : List (List ℕ)) → i < length names → n ≡ get_or names i n → old ≡ distinct bytes_eq (take i names) → list_any (bytes_eq n) old ≡ found
    → repeated_behind (take i names) (drop i names) ≡ (if found then Some n else repeated_behind (take (i + 1) names) (drop (i + 1) names))
repeated_at names i n found old within is h e =
    ap (λ (ns : List (List ℕ)). repeated_behind (take i names) ns) (next_drop names i n within is)
    ∙ (ap (λ (b : Bool). if b then Some n else repeated_behind (take i names ++ n ∷ []) (drop (i + 1) names)) (sym (is_among_distinct (take i names) old n h) ∙ e)
    ∙ ap (λ (ns : List (List ℕ)). if found then Some n else repeated_behind ns (drop (i + 1) names)) (sym (next_take names i n within is)))

pub repeated_found : (names : List (List ℕ)) (i : ℕ) (n : List ℕ) (old : List (List ℕ)) (all : Option (List ℕ)) → i < length names → n ≡ get_or names i n → old ≡ distinct bytes_eq (take i names) → list_any (bytes_eq n) old ≡ true
    → repeated_behind (take i names) (drop i names) ≡ all → Some n ≡ all
repeated_found names i n old all within is h e same = sym (repeated_at names i n true old within is h e) ∙ same

pub repeated_more : (names : List (List ℕ)) (i : ℕ) (n : List ℕ) (old : List (List ℕ)) (all : Option (List ℕ)) → i < length names → n ≡ get_or names i n → old ≡ distinct bytes_eq (take i names) → list_any (bytes_eq n) old ≡ false
    → repeated_behind (take i names) (drop i names) ≡ all → repeated_behind (take (i + 1) names) (drop (i + 1) names) ≡ all
repeated_more names i n old all within is h e same = sym (repeated_at names i n false old within is h e) ∙ same

-- one more id is taken or not
pub taken_more : (ids : List (List ℕ)) (i : ℕ) (id : List ℕ) (known : List (List ℕ)) (taken new all : List Bool) → i < length ids → id ≡ get_or ids i id → known ≡ distinct bytes_eq (take i ids)
    → taken ++ taken_behind (take i ids) (drop i ids) ≡ all → new ≡ taken ++ list_any (bytes_eq id) known ∷ [] → new ++ taken_behind (take (i + 1) ids) (drop (i + 1) ids) ≡ all
taken_more ids i id known taken new all within is h same made =
    let rest = taken_behind (take (i + 1) ids) (drop (i + 1) ids) in
    let next : taken_behind (take i ids) (drop i ids) ≡ list_any (bytes_eq id) known ∷ rest =
    ap (λ (ns : List (List ℕ)). taken_behind (take i ids) ns) (next_drop ids i id within is)
    ∙ (ap (λ (b : Bool). b ∷ taken_behind (take i ids ++ id ∷ []) (drop (i + 1) ids)) (sym (is_among_distinct (take i ids) known id h))
    ∙ ap (λ (ns : List (List ℕ)). list_any (bytes_eq id) known ∷ taken_behind ns (drop (i + 1) ids)) (sym (next_take ids i id within is))) in
    ap (λ (bs : List Bool). bs ++ rest) made ∙ (append_assoc taken (list_any (bytes_eq id) known ∷ []) rest ∙ (ap (λ (bs : List Bool). taken ++ bs) (sym next) ∙ same))
