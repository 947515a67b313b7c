-- A set of texts seen as the list of their bytes.
use Rattle.std.proofs.Common.{◌≡◌, ℕ, zero, suc, ◌<◌, take, arith, Bool, true, false, cond, ◌||◌, List, [], ◌∷◌, ◌++◌, ◌+◌, map, position, length, slice_get, get_or, Option, None, Some, refl, not, sym, ap, subst, ◌∙◌, if◌then◌else◌, bytes_eq, option_map, is_some, IfSome, rules, String, Global}
use Rattle.std.proofs.lemmas.List.{map-append, take_more}
use Rattle.std.specs.List.{list_any, IsDistinct, AllByRecursion}
use Rattle.std.specs.String.{string_bytes, string_eq}
use Rattle.std.proofs.lemmas.List.Quantifiers.{position-Some}
use Rattle.std.proofs.lemmas.Map.Keys.{IsDistinct-cons, IsDistinct-tail, IsDistinct-head}
use Rattle.std.proofs.lemmas.Option.{slice_get-map, slice_get-get_or, get_or_from_slice_get}
use Rattle.std.proofs.lemmas.Slice.Eq.{bytes_eq-Decides}
use Rattle.indexmap.specs.IndexSet.{insert_key}

module _ {K B : Type 0} (f : K → B) where
  pub any_map : (g : B → Bool) (ks : List K) → list_any (λ k. g (f k)) ks ≡ list_any g (map f ks)
  any_map g [] = refl
  any_map g (k ∷ ks) = ap (λ (b : Bool). g (f k) || b) (any_map g ks)

  differ_map : (g : B → Bool) (ks : List K) → AllByRecursion (λ k. g (f k) ≡ false) ks → AllByRecursion (λ b. g b ≡ false) (map f ks)
  differ_map g [] h = h
  differ_map g (k ∷ ks) h = (h.0, differ_map g ks h.1)

  pub distinct_map : (e : B → B → Bool) (ks : List K) → IsDistinct (λ j k. e (f j) (f k)) ks → IsDistinct e (map f ks)
  unfolding IsDistinct
  distinct_map e [] h = h
  distinct_map e (k ∷ ks) h = IsDistinct-cons e (f k) (map f ks) (differ_map (e (f k)) ks (IsDistinct-head (λ j k. e (f j) (f k)) k ks h)) (distinct_map e ks (IsDistinct-tail (λ j k. e (f j) (f k)) k ks h))

  insert_test : (there : Bool) (ks : List K) (k : K) → map f (cond there ks (ks ++ k ∷ [])) ≡ cond there (map f ks) (map f ks ++ f k ∷ [])
  insert_test true ks k = refl
  insert_test false ks k = map-append f ks (k ∷ [])

  pub insert_map : (e : B → B → Bool) (ks : List K) (k : K) → map f (insert_key (λ j k. e (f j) (f k)) ks k) ≡ (if list_any (e (f k)) (map f ks) then map f ks else (map f ks ++ f k ∷ []))
  insert_map e ks k = insert_test (list_any (λ j. e (f k) (f j)) ks) ks k ∙ ap (λ (b : Bool). cond b (map f ks) (map f ks ++ f k ∷ [])) (any_map (e (f k)) ks)

-- the name stands at the place at which it is found
pub there : (n : List ℕ) (ks : List (String Global)) (at : ℕ) → position (λ k. bytes_eq n (string_bytes k)) ks ≡ Some at → slice_get (map string_bytes ks) at ≡ Some n
there n [] at found = search (found)
there n (k ∷ ks) at found =
    let p = position-Some (λ k. bytes_eq n (string_bytes k)) (k ∷ ks) at k found in
    let same = (bytes_eq-Decides n (string_bytes (get_or (k ∷ ks) at k))).0 p.1 in
    slice_get-map string_bytes (k ∷ ks) at ∙ (ap (λ (o : Option (String Global)). option_map string_bytes o) (slice_get-get_or (k ∷ ks) at k p.0) ∙ ap Some (sym same))

-- what a look-up says, where the texts are seen as the names
pub there_if : (names : List (List ℕ)) (n m : List ℕ) (ks : List (String Global)) (found : Option ℕ) → map string_bytes ks ≡ names → m ≡ n → found ≡ position (λ k. bytes_eq m (string_bytes k)) ks → IfSome found (λ at. slice_get names at ≡ Some n)
there_if names n m ks None seen same found = search rules
there_if names n m ks (Some at) seen same found = search (rules, ap (λ (x : List (List ℕ)). slice_get x at) (sym seen) ∙ (there m ks at (sym found) ∙ ap Some same))

pub absent_if : (names : List (List ℕ)) (n m : List ℕ) (ks : List (String Global)) (found : Option ℕ) → map string_bytes ks ≡ names → m ≡ n → is_some found ≡ list_any (λ k. bytes_eq m (string_bytes k)) ks → found ≡ None → list_any (bytes_eq n) names ≡ false
absent_if names n m ks found seen same is none =
    ap (λ (x : List (List ℕ)). list_any (bytes_eq n) x) (sym seen)
    ∙ (ap (λ (x : List ℕ). list_any (bytes_eq x) (map string_bytes ks)) (sym same) ∙ (sym (any_map string_bytes (bytes_eq m) ks) ∙ (sym is ∙ ap is_some none)))

-- what an insertion does to them
pub inserted : (names : List (List ℕ)) (ks : List (String Global)) (k : String Global) → map string_bytes ks ≡ names → map string_bytes (insert_key string_eq ks k) ≡ (if list_any (bytes_eq (string_bytes k)) names then names else (names ++ string_bytes k ∷ []))
inserted names ks k seen = subst (λ (x : List (List ℕ)). map string_bytes (insert_key string_eq ks k) ≡ (if list_any (bytes_eq (string_bytes k)) x then x else (x ++ string_bytes k ∷ []))) seen (insert_map string_bytes bytes_eq ks k)

pub is_new : (names : List (List ℕ)) (ks : List (String Global)) (k : String Global) (added : Bool) → map string_bytes ks ≡ names → added ≡ not (list_any (string_eq k) ks) → added ≡ not (list_any (bytes_eq (string_bytes k)) names)
is_new names ks k added seen is = is ∙ ap not (any_map string_bytes (bytes_eq (string_bytes k)) ks ∙ ap (λ (x : List (List ℕ)). list_any (bytes_eq (string_bytes k)) x) seen)

-- ---- copies

apart_test : (other : Bool) (x y : List ℕ) → bytes_eq y x ≡ other → bytes_eq x y ≡ false → other ≡ false
apart_test false x y is differ = refl
apart_test true x y is differ =
    let same = (bytes_eq-Decides y x).0 is in
    let yes = (bytes_eq-Decides x y).1 (sym same) in
    sym yes ∙ differ

differs_at : (x : List ℕ) (ys : List (List ℕ)) (i : ℕ) (d : List ℕ) → i < length ys → AllByRecursion (λ y. bytes_eq x y ≡ false) ys → bytes_eq x (get_or ys i d) ≡ false
differs_at x [] i d within h = absurd (omega arith)
differs_at x (y ∷ ys) zero d within h = h.0
differs_at x (y ∷ ys) (suc i) d within h = differs_at x ys i d (omega arith) h.1

-- no name before a place is the one there
pub new_at : (names : List (List ℕ)) (i : ℕ) (d : List ℕ) → i < length names → IsDistinct bytes_eq names → list_any (bytes_eq (get_or names i d)) (take i names) ≡ false
new_at [] i d within h = absurd (omega arith)
new_at (n ∷ names) zero d within h = refl
new_at (n ∷ names) (suc i) d within h =
    let first = apart_test (bytes_eq (get_or names i d) n) n (get_or names i d) refl (differs_at n names i d (omega arith) (IsDistinct-head bytes_eq n names h)) in
    let more = new_at names i d (omega arith) (IsDistinct-tail bytes_eq n names h) in
    ap (λ (b : Bool). b || list_any (bytes_eq (get_or names i d)) (take i names)) first ∙ more

-- the names before a place, with the one there put in
pub copied_more : (names old new : List (List ℕ)) (at : ℕ) (name : List ℕ) → at < length names → IsDistinct bytes_eq names → old ≡ take at names → slice_get names at ≡ Some name → new ≡ (if list_any (bytes_eq name) old then old else (old ++ name ∷ [])) → new ≡ take (at + 1) names
copied_more names old new at name within distinct before there is =
    let here = get_or_from_slice_get names at name [] there in
    let fresh = subst (λ (n : List ℕ). list_any (bytes_eq n) (take at names) ≡ false) here (new_at names at [] within distinct) in
    let old_fresh = subst (λ (x : List (List ℕ)). list_any (bytes_eq name) x ≡ false) (sym before) fresh in
    let pushed = is ∙ ap (λ (b : Bool). cond b old (old ++ name ∷ [])) old_fresh in
    pushed ∙ (ap (λ (x : List (List ℕ)). x ++ name ∷ []) before ∙ (ap (λ (n : List ℕ). take at names ++ n ∷ []) (sym here) ∙ sym (take_more names at [] within)))
