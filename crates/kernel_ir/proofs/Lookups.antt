-- Names and inames that are looked up.
use Rattle.std.proofs.Common.{◌≡◌, ℕ, zero, suc, Bool, true, false, cond, ◌||◌, List, [], ◌∷◌, map, slice_get, Option, None, Some, is_some, find, nat_eq, refl, sym, ap, ◌∙◌, bytes_eq, IfSome, rules}
use Rattle.std.specs.List.{list_any}
use Rattle.std.specs.Option.{option_map, IsSome}
use Rattle.std.proofs.lemmas.Bool.{true≢false}
use Rattle.std.proofs.lemmas.Slice.Eq.{bytes_eq-Decides}
use Rattle.affine_rows.proofs.NameSets.{any_map}
use Rattle.kernel_ir.specs.declared.kernel.Iname.{Iname}
use Rattle.kernel_ir.specs.declared.fault.Site.TheVariants.{Kernel}
use Rattle.kernel_ir.specs.Refusals.{is_name, unknown_name, taken_name, find_refusal, fresh_refusal, room_refusal}

-- the one name among none
same_head : (b : Bool) (names : List (List ℕ)) (name : List ℕ) → b ≡ true → (b || list_any (bytes_eq name) names) ≡ true
same_head b names name is = ap (λ (x : Bool). x || list_any (bytes_eq name) names) is

later : (b : Bool) (rest : Bool) → rest ≡ true → (b || rest) ≡ true
later true rest is = refl
later false rest is = is

some_injective : (n m : List ℕ) → Some n ≡ Some m → m ≡ n
some_injective n m is = cc

-- a name that stands at a place is there
pub is_name_at : (names : List (List ℕ)) (at : ℕ) (name : List ℕ) → slice_get names at ≡ Some name → is_name names name ≡ true
is_name_at [] at name is = cc
is_name_at (n ∷ names) zero name is = same_head (bytes_eq name n) names name ((bytes_eq-Decides name n).1 (some_injective n name is))
is_name_at (n ∷ names) (suc at) name is = later (bytes_eq name n) (is_name names name) (is_name_at names at name is)

-- looking it up is not refused, adding it is
pub found_there : (names : List (List ℕ)) (at : ℕ) (name : List ℕ) → slice_get names at ≡ Some name → find_refusal names name ≡ None
found_there names at name is = ap (λ (b : Bool). cond b None (Some (unknown_name Kernel name))) (is_name_at names at name is)

pub taken_there : (names : List (List ℕ)) (at : ℕ) (name : List ℕ) → slice_get names at ≡ Some name → fresh_refusal names name ≡ Some (taken_name Kernel name)
taken_there names at name is = ap (λ (b : Bool). cond b (Some (taken_name Kernel name)) (room_refusal names)) (is_name_at names at name is)

pub taken_if : (names : List (List ℕ)) (found : Option ℕ) (name : List ℕ) → is_some found ≡ true → IfSome found (λ at. slice_get names at ≡ Some name) → fresh_refusal names name ≡ Some (taken_name Kernel name)
taken_if names None name is there = cc
taken_if names (Some at) name is there = taken_there names at name there

-- an iname with the variable is found
found_test : (b : Bool) (i : Iname) (rest : Option Iname) → (b || is_some rest) ≡ is_some (cond b (Some i) rest)
found_test true i rest = refl
found_test false i rest = refl

some_found : (test : Iname → Bool) (is : List Iname) → list_any test is ≡ is_some (find test is)
some_found test [] = refl
some_found test (i ∷ is) = ap (λ (b : Bool). test i || b) (some_found test is) ∙ found_test (test i) i (find test is)

pub iname_found : (is : List Iname) (var : ℕ) → list_any (λ u. nat_eq u var) (map (λ i. i.var) is) ≡ true → is_some (find (λ i. nat_eq i.var var) is) ≡ true
iname_found is var there = sym (some_found (λ i. nat_eq i.var var) is) ∙ (any_map (λ (i : Iname). i.var) (λ u. nat_eq u var) is ∙ there)

pub known_found : {A : Type 0} (f : A → Iname) (found : Option A) (is : List Iname) (var : ℕ) → option_map f found ≡ find (λ i. nat_eq i.var var) is → list_any (λ u. nat_eq u var) (map (λ i. i.var) is) ≡ true → IsSome found
known_found f None is var first there = absurd (true≢false (sym (iname_found is var there) ∙ sym (ap is_some first)))
known_found f (Some x) is var first there = search rules

pub tag_found : {A : Type 0} (f : A → Iname) (found : Option A) (x : A) (is : List Iname) (var : ℕ) → option_map f found ≡ find (λ i. nat_eq i.var var) is → found ≡ Some x → option_map (λ i. i.tag) (find (λ i. nat_eq i.var var) is) ≡ Some (f x).tag
tag_found f found x is var first there = ap (option_map (λ i. i.tag)) (sym first ∙ ap (option_map f) there)
