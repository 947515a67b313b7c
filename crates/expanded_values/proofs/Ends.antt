-- In a kernel without a cycle of rules no use is left at the depth of its count of rules.
use Rattle.std.specs.Prelude.{◌≡◌, ℕ, zero, suc, ◌<◌, nat_eq, nat_lt, Bool, true, false, ◌&&◌, ◌||◌, List, [], ◌∷◌, ◌++◌, length, slice_get}
use Rattle.std.specs.List.{list_all, list_any, IsDistinct, AllByRecursion}
use Rattle.std.proofs.Common.{refl, sym, ap, ◌∙◌, subst, arith}
use Rattle.std.proofs.lemmas.Bool.{ltb-true}
use Rattle.std.proofs.lemmas.Map.Steps.{length-le_from_distinct_below}
use Rattle.kernel_ir.specs.declared.kernel.Kernel.{Kernel}
use Rattle.kernel_ir.specs.Valid.{body_calls, calls_along, HasNoRuleCycle}
use Rattle.expanded_values.proofs.Passing.{equal_numbers}
use Rattle.subst_rules.proofs.Bools.{both, first_of_both, second_of_both, either_first, either_second}

-- with uses in the rule's body replaced to the n-th depth none is left
abbrev pub ends : Kernel → ℕ → ℕ → Bool
ends K zero rule = false
ends K (suc n) rule = list_all (λ c. ends K n c.0) (body_calls (slice_get K.rules rule))

same_number : (a : ℕ) → nat_eq a a ≡ true
same_number a = search arith

-- what fails of some fails of one
record Fails (p : ℕ × ℕ → Bool) (cs : List (ℕ × ℕ)) : Type 0 where
  at : ℕ × ℕ
  fails : p at ≡ false
  among : list_any (λ c. nat_eq c.0 at.0) cs ≡ true

fails_case : (p : ℕ × ℕ → Bool) (c : ℕ × ℕ) (cs : List (ℕ × ℕ)) (b : Bool) → p c ≡ b → (b && list_all p cs) ≡ false → (list_all p cs ≡ false → Fails p cs) → Fails p (c ∷ cs)
fails_case p c cs true e h later = let found = later h in record { at = found.at; fails = found.fails; among = either_second (nat_eq c.0 found.at.0) (list_any (λ d. nat_eq d.0 found.at.0) cs) found.among }
fails_case p c cs false e h later = record { at = c; fails = e; among = either_first (nat_eq c.0 c.0) (list_any (λ d. nat_eq d.0 c.0) cs) (same_number c.0) }

fails_one : (p : ℕ × ℕ → Bool) (cs : List (ℕ × ℕ)) → list_all p cs ≡ false → Fails p cs
fails_one p [] h = absurd (let clash : true ≡ false = h in cc)
fails_one p (c ∷ cs) h = fails_case p c cs (p c) refl h (λ k. fails_one p cs k)

-- a way of n uses
record Way (K : Kernel) (n rule : ℕ) : Type 0 where
  way : List ℕ
  long : length way ≡ n
  walks : calls_along K rule way ≡ true

way_on : (K : Kernel) (n rule : ℕ) → ends K n rule ≡ false → Way K n rule
way_on K zero rule h = record { way = []; long = refl; walks = refl }
way_on K (suc n) rule h =
    let found = fails_one (λ c. ends K n c.0) (body_calls (slice_get K.rules rule)) h in
    let rest = way_on K n found.at.0 found.fails in
    record {
      way = found.at.0 ∷ rest.way;
      long = ap suc rest.long;
      walks = both (list_any (λ c. nat_eq c.0 found.at.0) (body_calls (slice_get K.rules rule))) (calls_along K found.at.0 rest.way) found.among rest.walks;
    }

-- a way on which a rule stands has a front that ends there
record Front (K : Kernel) (from target : ℕ) : Type 0 where
  front : List ℕ
  walks : calls_along K from (front ++ target ∷ []) ≡ true

front_case : (K : Kernel) (from target next : ℕ) (way : List ℕ) (b : Bool) → nat_eq target next ≡ b → list_any (λ c. nat_eq c.0 next) (body_calls (slice_get K.rules from)) ≡ true → (b || list_any (nat_eq target) way) ≡ true
    → (list_any (nat_eq target) way ≡ true → Front K next target) → Front K from target
front_case K from target next way true e used h later = record {
  front = [];
  walks = both (list_any (λ c. nat_eq c.0 target) (body_calls (slice_get K.rules from))) true (subst (λ (n : ℕ). list_any (λ c. nat_eq c.0 n) (body_calls (slice_get K.rules from)) ≡ true) (sym (equal_numbers target next e)) used) refl;
}
front_case K from target next way false e used h later =
    let rest = later h in record { front = next ∷ rest.front; walks = both (list_any (λ c. nat_eq c.0 next) (body_calls (slice_get K.rules from))) (calls_along K next (rest.front ++ target ∷ [])) used rest.walks }

front_to : (K : Kernel) (from target : ℕ) (way : List ℕ) → calls_along K from way ≡ true → list_any (nat_eq target) way ≡ true → Front K from target
front_to K from target [] walks h = absurd (let clash : false ≡ true = h in cc)
front_to K from target (next ∷ way) walks h =
    let used = first_of_both (list_any (λ c. nat_eq c.0 next) (body_calls (slice_get K.rules from))) (calls_along K next way) walks in
    let rest = second_of_both (list_any (λ c. nat_eq c.0 next) (body_calls (slice_get K.rules from))) (calls_along K next way) walks in
    front_case K from target next way (nat_eq target next) refl used h (λ k. front_to K next target way rest k)

is_false : (b : Bool) → (b ≡ true → ⊥) → b ≡ false
is_false true h = absurd (h refl)
is_false false h = refl

not_there : (p : ℕ → Bool) (xs : List ℕ) → (list_any p xs ≡ true → ⊥) → AllByRecursion (λ x. p x ≡ false) xs
not_there p [] h = tt
not_there p (x ∷ xs) h = (is_false (p x) (λ so. h (either_first (p x) (list_any p xs) so)), not_there p xs (λ so. h (either_second (p x) (list_any p xs) so)))

module _ (K : Kernel) (acyclic : HasNoRuleCycle K) where
  apart : (rule : ℕ) (way : List ℕ) → calls_along K rule way ≡ true → AllByRecursion (λ x. nat_eq rule x ≡ false) way
  apart rule way walks = not_there (nat_eq rule) way (λ so.
      let found = front_to K rule rule way walks so in
      let clash : true ≡ false = sym found.walks ∙ acyclic rule found.front in cc)

  distinct : (rule : ℕ) (way : List ℕ) → calls_along K rule way ≡ true → IsDistinct nat_eq (rule ∷ way)
  unfolding IsDistinct
  distinct rule [] walks = (tt, tt)
  distinct rule (next ∷ way) walks =
      (apart rule (next ∷ way) walks, distinct next way (second_of_both (list_any (λ c. nat_eq c.0 next) (body_calls (slice_get K.rules rule))) (calls_along K next way) walks))

  module _ (known : (rule : ℕ) → list_all (λ c. nat_lt c.0 (length K.rules)) (body_calls (slice_get K.rules rule)) ≡ true) where
    used_case : (c next : ℕ) (b : Bool) → nat_eq c next ≡ b → nat_lt c (length K.rules) ≡ true → (rest : Bool) → (b || rest) ≡ true → (rest ≡ true → nat_lt next (length K.rules) ≡ true) → nat_lt next (length K.rules) ≡ true
    used_case c next true e below rest h later = subst (λ (n : ℕ). nat_lt n (length K.rules) ≡ true) (equal_numbers c next e) below
    used_case c next false e below rest h later = later h

    used_below : (cs : List (ℕ × ℕ)) (next : ℕ) → list_all (λ c. nat_lt c.0 (length K.rules)) cs ≡ true → list_any (λ c. nat_eq c.0 next) cs ≡ true → nat_lt next (length K.rules) ≡ true
    used_below [] next all h = absurd (let clash : false ≡ true = h in cc)
    used_below (c ∷ cs) next all h = used_case c.0 next (nat_eq c.0 next) refl (first_of_both (nat_lt c.0 (length K.rules)) (list_all (λ c. nat_lt c.0 (length K.rules)) cs) all) (list_any (λ c. nat_eq c.0 next) cs) h
        (λ k. used_below cs next (second_of_both (nat_lt c.0 (length K.rules)) (list_all (λ c. nat_lt c.0 (length K.rules)) cs) all) k)

    below_case : (rule q : ℕ) (b : Bool) → nat_eq q rule ≡ b → rule < length K.rules → (rest : Bool) → (b || rest) ≡ true → (rest ≡ true → q < length K.rules) → q < length K.rules
    below_case rule q true e here rest h later = subst (λ (n : ℕ). n < length K.rules) (sym (equal_numbers q rule e)) here
    below_case rule q false e here rest h later = later h

    below_all : (rule : ℕ) (way : List ℕ) → rule < length K.rules → calls_along K rule way ≡ true → (q : ℕ) → list_any (nat_eq q) (rule ∷ way) ≡ true → q < length K.rules
    below_all rule [] here walks q h = below_case rule q (nat_eq q rule) refl here false h (λ so. absurd (let clash : false ≡ true = so in cc))
    below_all rule (next ∷ way) here walks q h =
        let used = first_of_both (list_any (λ c. nat_eq c.0 next) (body_calls (slice_get K.rules rule))) (calls_along K next way) walks in
        let below = ltb-true next (length K.rules) (used_below (body_calls (slice_get K.rules rule)) next (known rule) used) in
        below_case rule q (nat_eq q rule) refl here (list_any (nat_eq q) (next ∷ way)) h
        (λ so. below_all next way below (second_of_both (list_any (λ c. nat_eq c.0 next) (body_calls (slice_get K.rules rule))) (calls_along K next way) walks) q so)

    is_true : (b : Bool) → (b ≡ false → ⊥) → b ≡ true
    is_true true h = refl
    is_true false h = absurd (h refl)

    pub all_end : (rule : ℕ) → nat_lt rule (length K.rules) ≡ true → ends K (length K.rules) rule ≡ true
    all_end rule here = is_true (ends K (length K.rules) rule) (λ shut.
        let found = way_on K (length K.rules) rule shut in
        let few = length-le_from_distinct_below (rule ∷ found.way) (length K.rules) (distinct rule found.way found.walks) (below_all rule found.way (ltb-true rule (length K.rules) here) found.walks) in
        absurd (let long = found.long in omega (arith, few, long)))
