-- Lists that differ, sublists, and what is among them.
use Rattle.std.proofs.Common.{◌≡◌, ℕ, arith, Bool, true, false, ◌&&◌, ◌||◌, cond, nat_eq, List, [], ◌∷◌, ◌++◌, ap, refl, sym, subst, ◌∙◌, append_assoc, append-nil, ◌⊎◌, inl, inr}
use Rattle.std.specs.Prelude.{Some, None, if◌then◌else◌}
use Rattle.std.specs.List.{list_all, list_any, filter}
use Rattle.std.proofs.lemmas.List.Folds.{list_all-append, list_any-append}
use Rattle.std.proofs.lemmas.Bool.Decides.{nat_tests}
use Rattle.expr_tree.specs.Scenes.{is_among}
use Rattle.std.proofs.lemmas.Bool.{and_from, and_parts, or_left, or_right}
use Rattle.kernel_ir.specs.NameSpace.{all_differ}
use Rattle.kernel_files.specs.Insns.{first_taken}

-- ---- one more

module _ {X : Type 0} (same : X → X → Bool) where
  abbrev apart : X → List X → Bool
  apart x = list_all (λ y. if same x y then false else true)

  apart_one : (b : Bool) → b ≡ false → ((if b then false else true) && true) ≡ true
  apart_one false h = refl
  apart_one true h = absurd (cc)

  pub neither : (a b : Bool) → (a || b) ≡ false → (a ≡ false) × (b ≡ false)
  neither false b h = (refl, h)
  neither true b h = absurd (cc)

  apart_more : (x : X) (xs : List X) (n : X) → apart x xs ≡ true → same x n ≡ false → apart x (xs ++ n ∷ []) ≡ true
  apart_more x xs n h e = list_all-append (λ y. if same x y then false else true) xs (n ∷ []) ∙ and_from (apart x xs) ((if same x n then false else true) && true) h (apart_one (same x n) e)

  -- one that is not among those that differ
  pub differ_more : (xs : List X) (n : X) → all_differ same xs ≡ true → list_any (λ x. same x n) xs ≡ false → all_differ same (xs ++ n ∷ []) ≡ true
  differ_more [] n h e = refl
  differ_more (x ∷ xs) n h e =
      let new = neither (same x n) (list_any (λ y. same y n) xs) e in
      and_from (apart x (xs ++ n ∷ [])) (all_differ same (xs ++ n ∷ [])) (apart_more x xs n ((and_parts (apart x xs) (all_differ same xs) h).0) new.0) (differ_more xs n ((and_parts (apart x xs) (all_differ same xs) h).1) new.1)

pub same_number : (u v : ℕ) → nat_eq u v ≡ true → u ≡ v
same_number u v h = grind (arith, nat_tests, h)

-- ---- numbers among numbers

which : (p q : Bool) → (p || q) ≡ true → (p ≡ true) ⊎ (q ≡ true)
which true q h = inl refl
which false q h = inr h

pub in_front : (us vs : List ℕ) (v : ℕ) → is_among us v ≡ true → is_among (us ++ vs) v ≡ true
in_front us vs v h = list_any-append (λ u. nat_eq u v) us vs ∙ or_left (is_among us v) (is_among vs v) h

pub in_back : (us vs : List ℕ) (v : ℕ) → is_among vs v ≡ true → is_among (us ++ vs) v ≡ true
in_back us vs v h = list_any-append (λ u. nat_eq u v) us vs ∙ or_right (is_among us v) (is_among vs v) h

pub in_either : (us vs : List ℕ) (v : ℕ) → is_among (us ++ vs) v ≡ true → (is_among us v ≡ true) ⊎ (is_among vs v ≡ true)
in_either us vs v h = which (is_among us v) (is_among vs v) (sym (list_any-append (λ u. nat_eq u v) us vs) ∙ h)

kept_either : (a b c : Bool) → (a || b) ≡ true → (b ≡ true → c ≡ true) → (a || c) ≡ true
kept_either true b c h next = refl
kept_either false b c h next = next h

kept_case : (p : ℕ → Bool) (u v : ℕ) (us : List ℕ) (b c : Bool) → nat_eq u v ≡ b → p u ≡ c → p v ≡ true → (is_among us v ≡ true → is_among (filter p us) v ≡ true) → (b || is_among us v) ≡ true
    → is_among (cond c (u ∷ filter p us) (filter p us)) v ≡ true
kept_case p u v us b true e f h next k = kept_either (nat_eq u v) (is_among us v) (is_among (filter p us) v) (subst (λ (x : Bool). (x || is_among us v) ≡ true) (sym e) k) next
kept_case p u v us true false e f h next k = absurd (let g = sym f ∙ (ap p (same_number u v e) ∙ h) in cc)
kept_case p u v us false false e f h next k = next k

-- what passes stays
pub kept_among : (p : ℕ → Bool) (us : List ℕ) (v : ℕ) → is_among us v ≡ true → p v ≡ true → is_among (filter p us) v ≡ true
kept_among p [] v h e = h
kept_among p (u ∷ us) v h e = kept_case p u v us (nat_eq u v) (p u) refl refl e (λ k. kept_among p us v k e) h

from_which : (p : ℕ → Bool) (u v : ℕ) (us : List ℕ) → p u ≡ true → (is_among (filter p us) v ≡ true → (is_among us v ≡ true) × (p v ≡ true)) → (nat_eq u v ≡ true) ⊎ (is_among (filter p us) v ≡ true)
    → ((nat_eq u v || is_among us v) ≡ true) × (p v ≡ true)
from_which p u v us f next (inl e) = (or_left (nat_eq u v) (is_among us v) e, ap p (sym (same_number u v e)) ∙ f)
from_which p u v us f next (inr k) = let rest = next k in (or_right (nat_eq u v) (is_among us v) rest.0, rest.1)

from_case : (p : ℕ → Bool) (u v : ℕ) (us : List ℕ) (c : Bool) → p u ≡ c → (is_among (filter p us) v ≡ true → (is_among us v ≡ true) × (p v ≡ true)) → is_among (cond c (u ∷ filter p us) (filter p us)) v ≡ true
    → ((nat_eq u v || is_among us v) ≡ true) × (p v ≡ true)
from_case p u v us true f next k = from_which p u v us f next (which (nat_eq u v) (is_among (filter p us) v) k)
from_case p u v us false f next k = let rest = next k in (or_right (nat_eq u v) (is_among us v) rest.0, rest.1)

-- what stays was there and passes
pub among_kept : (p : ℕ → Bool) (us : List ℕ) (v : ℕ) → is_among (filter p us) v ≡ true → (is_among us v ≡ true) × (p v ≡ true)
among_kept p [] v h = absurd (cc)
among_kept p (u ∷ us) v h = from_case p u v us (p u) refl (among_kept p us v) h

-- ---- what stays of a list, kept once more

filter_case : (p q : ℕ → Bool) (u : ℕ) (us vs : List ℕ) → p u ≡ q u → us ≡ vs → cond (p u) (u ∷ us) us ≡ cond (q u) (u ∷ vs) vs
filter_case p q u us vs e f = ap (λ (b : Bool). cond b (u ∷ us) us) e ∙ ap (λ (xs : List ℕ). cond (q u) (u ∷ xs) xs) f

-- tests that agree on a list keep the same of it
filter_same : (p q : ℕ → Bool) (us : List ℕ) → ((v : ℕ) → is_among us v ≡ true → p v ≡ q v) → filter p us ≡ filter q us
filter_same p q [] h = refl
filter_same p q (u ∷ us) h =
    filter_case p q u (filter p us) (filter q us) (h u (or_left (nat_eq u u) (is_among us u) (grind (arith, nat_tests)))) (filter_same p q us (λ v k. h v (or_right (nat_eq u v) (is_among us v) k)))

agree : (a b : Bool) → (a ≡ true → b ≡ true) → (b ≡ true → a ≡ true) → a ≡ b
agree true b h k = sym (h refl)
agree false true h k = k refl
agree false false h k = refl

pub filter_again : (p : ℕ → Bool) (us : List ℕ) → filter p us ≡ filter (is_among (filter p us)) us
filter_again p us = filter_same p (is_among (filter p us)) us (λ v k. agree (p v) (is_among (filter p us) v) (kept_among p us v k) (λ h. (among_kept p us v h).1))

-- ---- inames of reductions that are not taken

taken_case : (own before : List ℕ) (v : ℕ) (vs : List ℕ) (b : Bool) → (is_among own v || is_among before v) ≡ b → (if b then Some v else first_taken own (before ++ v ∷ []) vs) ≡ None
    → ((is_among own v || is_among before v) ≡ false) × (first_taken own (before ++ v ∷ []) vs ≡ None)
taken_case own before v vs true e h = absurd (cc)
taken_case own before v vs false e h = (e, h)

not_joined : (us vs : List ℕ) (v : ℕ) → (is_among us v || is_among vs v) ≡ false → is_among (us ++ vs) v ≡ false
not_joined us vs v h = list_any-append (λ u. nat_eq u v) us vs ∙ h

-- where none is taken, all differ
pub untaken_differ : (own before bound : List ℕ) → all_differ nat_eq (own ++ before) ≡ true → first_taken own before bound ≡ None → all_differ nat_eq (own ++ (before ++ bound)) ≡ true
untaken_differ own before [] h e = subst (λ (xs : List ℕ). all_differ nat_eq (own ++ xs) ≡ true) (sym (append-nil before)) h
untaken_differ own before (v ∷ vs) h e =
    let rest = taken_case own before v vs (is_among own v || is_among before v) refl e in
    let more = differ_more nat_eq (own ++ before) v h (not_joined own before v rest.0) in
    let next = untaken_differ own (before ++ v ∷ []) vs (subst (λ (xs : List ℕ). all_differ nat_eq xs ≡ true) (append_assoc own before (v ∷ [])) more) rest.1 in
    subst (λ (xs : List ℕ). all_differ nat_eq (own ++ xs) ≡ true) (append_assoc before (v ∷ []) vs) next
