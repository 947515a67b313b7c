-- Tests over lists, and lists that differ together.
use Rattle.std.proofs.Common.{◌≡◌, ℕ, arith, Bool, true, false, ◌&&◌, ◌||◌, nat_eq, List, [], ◌∷◌, ◌++◌, refl, sym, subst, ◌∙◌}
use Rattle.std.specs.Prelude.{if◌then◌else◌}
use Rattle.std.specs.List.{list_all, filter}
use Rattle.std.proofs.lemmas.List.Folds.{list_all-append}
use Rattle.std.proofs.lemmas.Bool.Decides.{nat_tests}
use Rattle.expr_tree.specs.Scenes.{is_among}
use Rattle.std.proofs.lemmas.Bool.{and_from, and_parts}
use Rattle.kernel_ir.specs.NameSpace.{all_differ}
use Rattle.kernel_formed.proofs.FormSums.{weaker}
use Rattle.kernel_formed.proofs.NumberLists.{in_front, in_back, same_number}

-- ---- tests

pub all_both : {X : Type 0} (p : X → Bool) (xs ys : List X) → list_all p xs ≡ true → list_all p ys ≡ true → list_all p (xs ++ ys) ≡ true
all_both p xs ys h k = list_all-append p xs ys ∙ and_from (list_all p xs) (list_all p ys) h k

pub all_first : {X : Type 0} (p : X → Bool) (xs ys : List X) → list_all p (xs ++ ys) ≡ true → list_all p xs ≡ true
all_first p xs ys h = (and_parts (list_all p xs) (list_all p ys) (sym (list_all-append p xs ys) ∙ h)).0

pub all_second : {X : Type 0} (p : X → Bool) (xs ys : List X) → list_all p (xs ++ ys) ≡ true → list_all p ys ≡ true
all_second p xs ys h = (and_parts (list_all p xs) (list_all p ys) (sym (list_all-append p xs ys) ∙ h)).1

-- both of two tests
pub all_pair : {X : Type 0} (p q : X → Bool) (xs : List X) → list_all p xs ≡ true → list_all q xs ≡ true → list_all (λ x. p x && q x) xs ≡ true
all_pair p q [] h k = refl
all_pair p q (x ∷ xs) h k =
    and_from (p x && q x) (list_all (λ y. p y && q y) xs) (and_from (p x) (q x) ((and_parts (p x) (list_all p xs) h).0) ((and_parts (q x) (list_all q xs) k).0))
    (all_pair p q xs ((and_parts (p x) (list_all p xs) h).1) ((and_parts (q x) (list_all q xs) k).1))

pub none_passes : (vs : List ℕ) → list_all (λ v. false) vs ≡ true → vs ≡ []
none_passes [] h = refl
none_passes (v ∷ vs) h = absurd (cc)

-- ---- numbers among numbers

among_behind : (us all : List ℕ) → ((v : ℕ) → is_among us v ≡ true → is_among all v ≡ true) → list_all (is_among all) us ≡ true
among_behind [] all h = refl
among_behind (u ∷ us) all h =
    and_from (is_among all u) (list_all (is_among all) us) (h u (in_front (u ∷ []) us u (in_front (u ∷ []) [] u (grind (arith, nat_tests))))) (among_behind us all (λ v k. h v (in_back (u ∷ []) us v k)))

pub itself_among : (us : List ℕ) → list_all (is_among us) us ≡ true
itself_among us = among_behind us us (λ v h. h)

-- what passes for each of a list passes for those among it
passes_case : (p : ℕ → Bool) (u : ℕ) (us : List ℕ) (v : ℕ) (b : Bool) → nat_eq u v ≡ b → p u ≡ true → (is_among us v ≡ true → p v ≡ true) → (b || is_among us v) ≡ true → p v ≡ true
passes_case p u us v true is h next e = subst (λ (x : ℕ). p x ≡ true) (same_number u v is) h
passes_case p u us v false is h next e = next e

pub passes_among : (p : ℕ → Bool) (us : List ℕ) (v : ℕ) → list_all p us ≡ true → is_among us v ≡ true → p v ≡ true
passes_among p [] v h e = absurd (cc)
passes_among p (u ∷ us) v h e = passes_case p u us v (nat_eq u v) refl ((and_parts (p u) (list_all p us) h).0) (λ k. passes_among p us v ((and_parts (p u) (list_all p us) h).1) k) e

pub all_among : (p : ℕ → Bool) (us vs : List ℕ) → list_all p us ≡ true → list_all (is_among us) vs ≡ true → list_all p vs ≡ true
all_among p us vs h k = weaker (is_among us) p (λ v e. passes_among p us v h e) vs k

abbrev apart : ℕ → List ℕ → Bool
apart u = list_all (λ v. if nat_eq u v then false else true)

-- ---- what stays of a list that differs

apart_kept_case : (p : ℕ → Bool) (u v : ℕ) (vs : List ℕ) (b : Bool) → (if nat_eq u v then false else true) ≡ true → apart u (filter p vs) ≡ true → apart u (if b then v ∷ filter p vs else filter p vs) ≡ true
apart_kept_case p u v vs true h k = and_from (if nat_eq u v then false else true) (apart u (filter p vs)) h k
apart_kept_case p u v vs false h k = k

apart_kept : (p : ℕ → Bool) (u : ℕ) (vs : List ℕ) → apart u vs ≡ true → apart u (filter p vs) ≡ true
apart_kept p u [] h = refl
apart_kept p u (v ∷ vs) h =
    apart_kept_case p u v vs (p v) ((and_parts (if nat_eq u v then false else true) (apart u vs) h).0) (apart_kept p u vs ((and_parts (if nat_eq u v then false else true) (apart u vs) h).1))

kept_case : (p : ℕ → Bool) (u : ℕ) (us : List ℕ) (b : Bool) → apart u (filter p us) ≡ true → all_differ nat_eq (filter p us) ≡ true → all_differ nat_eq (if b then u ∷ filter p us else filter p us) ≡ true
kept_case p u us true h k = and_from (apart u (filter p us)) (all_differ nat_eq (filter p us)) h k
kept_case p u us false h k = k

pub differ_kept : (p : ℕ → Bool) (us : List ℕ) → all_differ nat_eq us ≡ true → all_differ nat_eq (filter p us) ≡ true
differ_kept p [] h = refl
differ_kept p (u ∷ us) h = kept_case p u us (p u) (apart_kept p u us ((and_parts (apart u us) (all_differ nat_eq us) h).0)) (differ_kept p us ((and_parts (apart u us) (all_differ nat_eq us) h).1))
