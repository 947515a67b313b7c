-- Lists that hold some elements of others.
use Rattle.std.proofs.Common.{◌≡◌, ◌<◌, ◌≤◌, ℕ, ◌+◌, Bool, true, false, cond, nat_eq, List, [], ◌∷◌, ◌++◌, arith, refl, sym, ap, ◌∙◌}
use Rattle.std.specs.Prelude.{count_by}
use Rattle.std.specs.List.{list_all}
use Rattle.std.proofs.lemmas.Bool.{and_from, and_parts, eqb-true, eq-eqb, true≢false}
use Rattle.std.proofs.lemmas.List.Sums.{sum_by-cons, sum_by-append}
use Rattle.kernel_ir.specs.NameSpace.{all_differ}
use Rattle.kernel_formed.specs.Taken.{IsTakenFrom}

abbrev count_of : ℕ → List ℕ → ℕ
count_of v xs = count_by (nat_eq v) xs

abbrev one_if : Bool → ℕ
one_if b = cond b 1 0

count-cons : (v x : ℕ) (xs : List ℕ) → count_of v (x ∷ xs) ≡ one_if (nat_eq v x) + count_of v xs
count-cons v x xs = sum_by-cons (λ y. one_if (nat_eq v y)) x xs

count-append : (v : ℕ) (xs ys : List ℕ) → count_of v (xs ++ ys) ≡ count_of v xs + count_of v ys
count-append v xs ys = sum_by-append (λ x. one_if (nat_eq v x)) xs ys

pub itself : (xs : List ℕ) → IsTakenFrom xs xs
itself xs = record { counts = λ v. omega arith }

pub nothing : (xs : List ℕ) → IsTakenFrom [] xs
nothing xs = record { counts = λ v. omega arith }

pub joined : (a b c d : List ℕ) → IsTakenFrom a b → IsTakenFrom c d → IsTakenFrom (a ++ c) (b ++ d)
joined a b c d h k = record { counts = λ v. omega (arith, h.counts v, k.counts v, count-append v a c, count-append v b d) }

pub turned : (a b c d : List ℕ) → IsTakenFrom a b → IsTakenFrom c d → IsTakenFrom (c ++ a) (b ++ d)
turned a b c d h k = record { counts = λ v. omega (arith, h.counts v, k.counts v, count-append v c a, count-append v b d) }

-- ---- a test of each element

passes_case : (test : ℕ → Bool) (b : Bool) (v x n : ℕ) → nat_eq v x ≡ b → test x ≡ true → (0 < n → test v ≡ true) → 0 < one_if b + n → test v ≡ true
passes_case test true v x n e h k some = ap test (eqb-true v x e) ∙ h
passes_case test false v x n e h k some = k (omega (arith, some))

passes_at : (test : ℕ → Bool) (xs : List ℕ) → list_all test xs ≡ true → (v : ℕ) → 0 < count_of v xs → test v ≡ true
passes_at test [] h v some = absurd (omega (arith, some))
passes_at test (x ∷ xs) h v some =
    let parts = and_parts (test x) (list_all test xs) h in
    passes_case test (nat_eq v x) v x (count_of v xs) refl parts.0 (passes_at test xs parts.1 v) (omega (arith, some, count-cons v x xs))

own_count : (x : ℕ) (xs : List ℕ) → count_of x (x ∷ xs) ≡ 1 + count_of x xs
own_count x xs = count-cons x x xs ∙ ap (λ (b : Bool). one_if b + count_of x xs) (eq-eqb x x refl)

more_count : (v x : ℕ) (xs : List ℕ) → count_of v xs ≤ count_of v (x ∷ xs)
more_count v x xs = omega (arith, count-cons v x xs)

all_from : (test : ℕ → Bool) (xs : List ℕ) → ((v : ℕ) → 0 < count_of v xs → test v ≡ true) → list_all test xs ≡ true
all_from test [] h = refl
all_from test (x ∷ xs) h =
    and_from (test x) (list_all test xs) (h x (omega (arith, own_count x xs)))
    (all_from test xs (λ v some. h v (omega (arith, some, more_count v x xs))))

pub all_in : (test : ℕ → Bool) (some all : List ℕ) → IsTakenFrom some all → list_all test all ≡ true → list_all test some ≡ true
all_in test some all h k = all_from test some (λ v there. passes_at test all k v (omega (arith, there, h.counts v)))

-- ---- elements that differ

-- none of the elements is the number
abbrev pub others : ℕ → List ℕ → Bool
others x ys = list_all (λ y. cond (nat_eq x y) false true) ys

absent_case : (b : Bool) (n : ℕ) → cond b false true ≡ true → n ≡ 0 → one_if b + n ≡ 0
absent_case true n h e = absurd (true≢false (sym h))
absent_case false n h e = omega (arith, e)

absent : (x : ℕ) (ys : List ℕ) → others x ys ≡ true → count_of x ys ≡ 0
absent x [] h = refl
absent x (y ∷ ys) h =
    (let parts = and_parts (cond (nat_eq x y) false true) (others x ys) h in count-cons x y ys ∙ absent_case (nat_eq x y) (count_of x ys) parts.0
    (absent x ys parts.1))

other_case : (b : Bool) (n : ℕ) → one_if b + n ≡ 0 → (cond b false true ≡ true) × (n ≡ 0)
other_case true n h = absurd (omega (arith, h))
other_case false n h = (refl, omega (arith, h))

all_others : (x : ℕ) (ys : List ℕ) → count_of x ys ≡ 0 → others x ys ≡ true
all_others x [] h = refl
all_others x (y ∷ ys) h =
    (let parts = other_case (nat_eq x y) (count_of x ys) (sym (count-cons x y ys) ∙ h) in and_from (cond (nat_eq x y) false true) (others x ys) parts.0
    (all_others x ys parts.1))

once_case : (b : Bool) (v x : ℕ) (xs : List ℕ) → nat_eq v x ≡ b → count_of x xs ≡ 0 → count_of v xs ≤ 1 → one_if b + count_of v xs ≤ 1
once_case true v x xs e none most = omega (arith, none, ap (λ (u : ℕ). count_of u xs) (eqb-true v x e))
once_case false v x xs e none most = omega (arith, most)

once : (xs : List ℕ) → all_differ nat_eq xs ≡ true → (v : ℕ) → count_of v xs ≤ 1
once [] h v = omega arith
once (x ∷ xs) h v =
    let parts = and_parts (others x xs) (all_differ nat_eq xs) h in
    let most = once_case (nat_eq v x) v x xs refl (absent x xs parts.0) (once xs parts.1 v) in
    omega (arith, most, count-cons v x xs)

differ_once : (xs : List ℕ) → ((v : ℕ) → count_of v xs ≤ 1) → all_differ nat_eq xs ≡ true
differ_once [] h = refl
differ_once (x ∷ xs) h =
    and_from (others x xs) (all_differ nat_eq xs) (all_others x xs (omega (arith, h x, own_count x xs)))
    (differ_once xs (λ v. omega (arith, h v, more_count v x xs)))

pub differ_in : (some all : List ℕ) → IsTakenFrom some all → all_differ nat_eq all ≡ true → all_differ nat_eq some ≡ true
differ_in some all h k = differ_once some (λ v. omega (arith, h.counts v, once all k v))
