-- What is in scope, and new to it.
use Rattle.std.proofs.Common.{◌≡◌, ℕ, Bool, true, false, not, ◌||◌, cond, nat_eq, List, [], ◌∷◌, ◌++◌, refl, sym, ap, ◌∙◌}
use Rattle.std.specs.List.{list_all}
use Rattle.std.proofs.lemmas.Bool.{and_from, and_parts, true≢false}
use Rattle.std.proofs.lemmas.List.Folds.{list_all-append, list_any-append}
use Rattle.expr_tree.specs.Scenes.{is_among}
use Rattle.kernel_ir.specs.NameSpace.{all_differ}
use Rattle.untyped_parts.specs.Mentions.{without}
use Rattle.kernel_formed.specs.Sound.{AreScoped, are_new}
use Rattle.kernel_formed.proofs.TakenLists.{others}

pub differ_first : (xs ys : List ℕ) → all_differ nat_eq (xs ++ ys) ≡ true → all_differ nat_eq xs ≡ true
differ_first [] ys h = refl
differ_first (x ∷ xs) ys h =
    let parts = and_parts (others x (xs ++ ys)) (all_differ nat_eq (xs ++ ys)) h in
    and_from (others x xs) (all_differ nat_eq xs) (and_parts _ _ (sym (list_all-append (λ y. cond (nat_eq x y) false true) xs ys) ∙ parts.0)).0
    (differ_first xs ys parts.1)

pub differ_second : (xs ys : List ℕ) → all_differ nat_eq (xs ++ ys) ≡ true → all_differ nat_eq ys ≡ true
differ_second [] ys h = h
differ_second (x ∷ xs) ys h = differ_second xs ys (and_parts (others x (xs ++ ys)) (all_differ nat_eq (xs ++ ys)) h).1

neither : (a b : Bool) → cond a false true ≡ true → not b ≡ true → not (a || b) ≡ true
neither true b h k = h
neither false b h k = k

-- what passes two tests passes a third
pub passes_both : (p q r : ℕ → Bool) → ((v : ℕ) → p v ≡ true → q v ≡ true → r v ≡ true) → (vs : List ℕ) → list_all p vs ≡ true → list_all q vs ≡ true
    → list_all r vs ≡ true
passes_both p q r f [] h k = refl
passes_both p q r f (v ∷ vs) h k =
    let left = and_parts (p v) (list_all p vs) h in
    let right = and_parts (q v) (list_all q vs) k in
    and_from (r v) (list_all r vs) (f v left.0 right.0) (passes_both p q r f vs left.1 right.1)

new_to_none : (ys : List ℕ) → are_new [] ys ≡ true
new_to_none [] = refl
new_to_none (y ∷ ys) = new_to_none ys

-- the second of two lists that differ together is new to the first
pub differ_apart : (xs ys : List ℕ) → all_differ nat_eq (xs ++ ys) ≡ true → are_new xs ys ≡ true
differ_apart [] ys h = new_to_none ys
differ_apart (x ∷ xs) ys h =
    let parts = and_parts (others x (xs ++ ys)) (all_differ nat_eq (xs ++ ys)) h in
    passes_both (λ y. cond (nat_eq x y) false true) (λ v. not (is_among xs v)) (λ v. not (is_among (x ∷ xs) v)) (λ v. neither (nat_eq x v) (is_among xs v)) ys
    (and_parts _ _ (sym (list_all-append (λ y. cond (nat_eq x y) false true) xs ys) ∙ parts.0)).1 (differ_apart xs ys parts.1)

not_either : (a b : Bool) → not a ≡ true → not b ≡ true → not (a || b) ≡ true
not_either true b h k = h
not_either false b h k = k

pub new_to_both : (scope inames vs : List ℕ) → are_new scope vs ≡ true → are_new inames vs ≡ true → are_new (scope ++ inames) vs ≡ true
new_to_both scope inames =
    passes_both (λ v. not (is_among scope v)) (λ v. not (is_among inames v)) (λ v. not (is_among (scope ++ inames) v))
    (λ v h k. ap not (list_any-append (λ u. nat_eq u v) scope inames) ∙ not_either (is_among scope v) (is_among inames v) h k)

pub or_first : (a b : Bool) → a ≡ true → (a || b) ≡ true
or_first true b h = refl
or_first false b h = absurd (true≢false (sym h))

pub or_second : (a b : Bool) → b ≡ true → (a || b) ≡ true
or_second true b h = refl
or_second false b h = h

-- what is mentioned in a reduction is one of its inames, or in scope round it
within_case : (scope inames : List ℕ) (b : Bool) (v : ℕ) (vs : List ℕ) → is_among inames v ≡ b → list_all (is_among scope) (cond (not b) (v ∷ vs) vs) ≡ true
    → (is_among (scope ++ inames) v ≡ true) × (list_all (is_among scope) vs ≡ true)
within_case scope inames true v vs e h = (list_any-append (λ u. nat_eq u v) scope inames ∙ or_second (is_among scope v) (is_among inames v) e, h)
within_case scope inames false v vs e h =
    let parts = and_parts (is_among scope v) (list_all (is_among scope) vs) h in
    (list_any-append (λ u. nat_eq u v) scope inames ∙ or_first (is_among scope v) (is_among inames v) parts.0, parts.1)

within : (scope inames vs : List ℕ) → list_all (is_among scope) (without inames vs) ≡ true → list_all (is_among (scope ++ inames)) vs ≡ true
within scope inames [] h = refl
within scope inames (v ∷ vs) h =
    let parts = within_case scope inames (is_among inames v) v (without inames vs) refl h in
    and_from (is_among (scope ++ inames) v) (list_all (is_among (scope ++ inames)) vs) parts.0 (within scope inames vs parts.1)

pub first_part : (scope ms ns bs cs : List ℕ) → AreScoped scope (ms ++ ns) (bs ++ cs) → AreScoped scope ms bs
first_part scope ms ns bs cs h = record {
  mentions = (and_parts _ _ (sym (list_all-append (is_among scope) ms ns) ∙ h.mentions)).0;
  differ = differ_first bs cs h.differ;
  new = (and_parts _ _ (sym (list_all-append (λ v. not (is_among scope v)) bs cs) ∙ h.new)).0;
}

pub second_part : (scope ms ns bs cs : List ℕ) → AreScoped scope (ms ++ ns) (bs ++ cs) → AreScoped scope ns cs
second_part scope ms ns bs cs h = record {
  mentions = (and_parts _ _ (sym (list_all-append (is_among scope) ms ns) ∙ h.mentions)).1;
  differ = differ_second bs cs h.differ;
  new = (and_parts _ _ (sym (list_all-append (λ v. not (is_among scope v)) bs cs) ∙ h.new)).1;
}

-- the part of a reduction, in the scope that its inames widen
pub inner_part : (scope inames ms bs : List ℕ) → AreScoped scope (without inames ms) (inames ++ bs) → AreScoped (scope ++ inames) ms bs
inner_part scope inames ms bs h = record {
  mentions = within scope inames ms h.mentions;
  differ = differ_second inames bs h.differ;
  new = new_to_both scope inames bs (and_parts _ _ (sym (list_all-append (λ v. not (is_among scope v)) inames bs) ∙ h.new)).1 (differ_apart inames bs h.differ);
}

-- the inames of a reduction are new
pub inames_new : (scope inames ms bs : List ℕ) → AreScoped scope ms (inames ++ bs) → are_new scope inames ≡ true
inames_new scope inames ms bs h = (and_parts _ _ (sym (list_all-append (λ v. not (is_among scope v)) inames bs) ∙ h.new)).0

pub scoped_as : (scope ms ns bs cs : List ℕ) → ms ≡ ns → bs ≡ cs → AreScoped scope ms bs → AreScoped scope ns cs
scoped_as scope ms ns bs cs e f h = record {
  mentions = ap (list_all (is_among scope)) (sym e) ∙ h.mentions;
  differ = ap (all_differ nat_eq) (sym f) ∙ h.differ;
  new = ap (are_new scope) (sym f) ∙ h.new;
}
