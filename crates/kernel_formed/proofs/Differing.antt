-- Lists whose elements differ, by how often an element stands in them.
use Rattle.std.proofs.Common.{◌≡◌, ℕ, ◌+◌, ◌≤◌, arith, Bool, true, false, not, cond, ◌||◌, if◌then◌else◌, List, [], ◌∷◌, ◌++◌, refl, sym, ap, subst, ◌∙◌}
use Rattle.std.specs.Bool.{Decides}
use Rattle.std.specs.List.{list_all, list_any, filter, count_by}
use Rattle.std.proofs.lemmas.Bool.{and_parts, and_from, or_parts}
use Rattle.std.proofs.lemmas.List.Sums.{sum_by-cons, sum_by-append}
use Rattle.quasi_forms.specs.Alike.{distinct}
use Rattle.kernel_ir.specs.NameSpace.{all_differ}

-- ---- how many pass a test

pub count-cons : {X : Type 0} (p : X → Bool) (x : X) (xs : List X) → count_by p (x ∷ xs) ≡ cond (p x) 1 0 + count_by p xs
count-cons p x xs = sum_by-cons (λ y. cond (p y) 1 0) x xs

pub count-append : {X : Type 0} (p : X → Bool) (xs ys : List X) → count_by p (xs ++ ys) ≡ count_by p xs + count_by p ys
count-append p xs ys = sum_by-append (λ y. cond (p y) 1 0) xs ys

counted_by : {X : Type 0} (p : X → Bool) (b : Bool) (x : X) (xs : List X) → p x ≡ b → count_by p (x ∷ xs) ≡ cond b 1 0 + count_by p xs
counted_by p b x xs h = count-cons p x xs ∙ ap (λ (c : Bool). cond c 1 0 + count_by p xs) h

none_here : (b : Bool) (n : ℕ) → cond b 1 0 + n ≡ 0 → (b ≡ false) × (n ≡ 0)
none_here true n h = absurd (omega (arith, h))
none_here false n h = (refl, omega (arith, h))

-- none passes: by counting, by one test, and by all
pub count_none : {X : Type 0} (p : X → Bool) (xs : List X) → list_any p xs ≡ false → count_by p xs ≡ 0
count_none p [] h = refl
count_none p (x ∷ xs) h =
    let parts = or_parts (p x) (list_any p xs) h in counted_by p false x xs parts.0 ∙ (let rest = count_none p xs parts.1 in omega (arith, rest))

pub none_counted : {X : Type 0} (p : X → Bool) (xs : List X) → count_by p xs ≡ 0 → list_all (λ y. if p y then false else true) xs ≡ true
none_counted p [] h = refl
none_counted p (x ∷ xs) h =
    let parts = none_here (p x) (count_by p xs) (sym (count-cons p x xs) ∙ h) in
    and_from (if p x then false else true) (list_all (λ y. if p y then false else true) xs) (ap (λ (b : Bool). if b then false else true) parts.0)
    (none_counted p xs parts.1)

negated : (b : Bool) → (if b then false else true) ≡ true → b ≡ false
negated false h = refl
negated true h = sym h

pub none_passes : {X : Type 0} (p : X → Bool) (xs : List X) → list_all (λ y. if p y then false else true) xs ≡ true → list_any p xs ≡ false
none_passes p [] h = refl
none_passes p (x ∷ xs) h =
    let parts = and_parts (if p x then false else true) (list_all (λ y. if p y then false else true) xs) h in
    ap (λ (b : Bool). b || list_any p xs) (negated (p x) parts.0) ∙ none_passes p xs parts.1

filter_test : {X : Type 0} (b : Bool) (p : X → Bool) (x : X) (ys xs : List X) → count_by p ys ≤ count_by p xs
    → count_by p (cond b (x ∷ ys) ys) ≤ count_by p (x ∷ xs)
filter_test true p x ys xs h = omega (arith, h, count-cons p x ys, count-cons p x xs)
filter_test false p x ys xs h = omega (arith, h, count-cons p x xs)

pub count-filter : {X : Type 0} (p q : X → Bool) (xs : List X) → count_by p (filter q xs) ≤ count_by p xs
count-filter p q [] = omega arith
count-filter p q (x ∷ xs) = filter_test (q x) p x (filter q xs) xs (count-filter p q xs)

left_test : {X : Type 0} (p : X → Bool) (b : Bool) (x : X) (xs : List X) → p x ≡ b → count_by p xs ≡ 0 → count_by p (cond (not b) (x ∷ xs) xs) ≡ 0
left_test p true x xs h none = none
left_test p false x xs h none = let here = counted_by p false x xs h in omega (arith, none, here)

-- none passes of those that are left where what passes is taken out
left_out : {X : Type 0} (p : X → Bool) (xs : List X) → count_by p (filter (λ y. not (p y)) xs) ≡ 0
left_out p [] = refl
left_out p (x ∷ xs) = left_test p (p x) x (filter (λ y. not (p y)) xs) refl (left_out p xs)

-- ---- elements differ exactly where none stands twice

counted_once : (b : Bool) (n : ℕ) → (b ≡ true → n ≡ 0) → n ≤ 1 → cond b 1 0 + n ≤ 1
counted_once true n h most = let none = h refl in omega (arith, none)
counted_once false n h most = omega (arith, most)

module _ {X : Type 0} (same : X → X → Bool) (decides : (x y : X) → Decides (same x y) (x ≡ y)) where
  pub is_itself : (x : X) → same x x ≡ true
  is_itself x = (decides x x).1 refl

  pub differ_from_counts : (xs : List X) → ((n : X) → count_by (same n) xs ≤ 1) → all_differ same xs ≡ true
  differ_from_counts [] h = refl
  differ_from_counts (x ∷ xs) h =
      let here = counted_by (same x) true x xs (is_itself x) in
      let most = h x in
      let none : count_by (same x) xs ≡ 0 = omega (arith, here, most) in
      and_from (list_all (λ y. if same x y then false else true) xs) (all_differ same xs) (none_counted (same x) xs none)
      (differ_from_counts xs (λ n. let more = count-cons (same n) x xs in let all = h n in omega (arith, more, all)))

  pub counts_from_differ : (xs : List X) → all_differ same xs ≡ true → (n : X) → count_by (same n) xs ≤ 1
  counts_from_differ [] h n = omega arith
  counts_from_differ (x ∷ xs) h n =
      let parts = and_parts (list_all (λ y. if same x y then false else true) xs) (all_differ same xs) h in
      subst (λ (m : ℕ). m ≤ 1) (sym (count-cons (same n) x xs)) (counted_once (same n x) (count_by (same n) xs)
      (λ is. count_none (same n) xs (subst (λ (y : X). list_any (same y) xs ≡ false) (sym ((decides n x).0 is)) (none_passes (same x) xs parts.0)))
      (counts_from_differ xs parts.1 n))

  pub differ_less : (xs ys : List X) → ((n : X) → count_by (same n) xs ≤ count_by (same n) ys) → all_differ same ys ≡ true → all_differ same xs ≡ true
  differ_less xs ys h differ = differ_from_counts xs (λ n. let less = h n in let most = counts_from_differ ys differ n in omega (arith, less, most))

  -- one more, which is none of them
  pub differ_more : (xs : List X) (x : X) → all_differ same xs ≡ true → list_any (same x) xs ≡ false → all_differ same (xs ++ x ∷ []) ≡ true
  differ_more xs x differ fresh = differ_from_counts (xs ++ x ∷ []) (λ n.
      let most = counted_once (same n x) (count_by (same n) xs)
      (λ is. count_none (same n) xs (subst (λ (y : X). list_any (same y) xs ≡ false) (sym ((decides n x).0 is)) fresh)) (counts_from_differ xs differ n) in
      let all = count-append (same n) xs (x ∷ []) in
      let one = count-cons (same n) x [] in omega (arith, most, all, one))

  -- the first of those that are alike
  pub differ_distinct : (xs : List X) → all_differ same (distinct same xs) ≡ true
  differ_distinct [] = refl
  differ_distinct (x ∷ xs) =
      let kept = filter (λ y. not (same x y)) (distinct same xs) in
      and_from (list_all (λ y. if same x y then false else true) kept) (all_differ same kept)
      (none_counted (same x) kept (left_out (same x) (distinct same xs)))
      (differ_less kept (distinct same xs) (λ n. count-filter (same n) (λ y. not (same x y)) (distinct same xs)) (differ_distinct xs))
