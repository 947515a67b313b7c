-- Sums of terms, and how large they get.
use Rattle.std.proofs.Common.{◌≡◌, ℕ, zero, suc, ◌+◌, ◌*◌, ◌<◌, ◌≤◌, ℤ, ◌+ℤ◌, ◌*ℤ◌, List, [], ◌∷◌, ◌++◌, length, take, get_or, map, arith, add-one, refl, ◌∙◌, ap, unsigned_abs, All}
use Rattle.std.specs.List.Sorted.{IsStrictlyIncreasing}
use Rattle.std.proofs.lemmas.Int.{ints, unsigned_abs-mul}
use Rattle.std.proofs.lemmas.List.{take_more, length-map, get_or-map}
use Rattle.affine_rows.specs.Rows.{Env, term_at, terms_at, IsTerm}

pub terms_at-append : (env : Env) (xs ys : List (ℕ × ℤ)) → terms_at env (xs ++ ys) ≡ terms_at env xs +ℤ terms_at env ys
terms_at-append env [] ys = omega (arith, ints)
terms_at-append env (x ∷ xs) ys = omega (arith, ints, terms_at-append env xs ys)

pub terms_at-more : (env : Env) (ts : List (ℕ × ℤ)) (i : ℕ) (d : ℕ × ℤ) → i < length ts → terms_at env (take (i + 1) ts) ≡ terms_at env (take i ts) +ℤ term_at env (get_or ts i d)
terms_at-more env ts i d h =
    ap (terms_at env) (take_more ts i d h) ∙ terms_at-append env (take i ts) (get_or ts i d ∷ [])
    ∙ omega (arith, ints)

pub abs-sum : (a b : ℤ) → unsigned_abs (a +ℤ b) ≤ unsigned_abs a + unsigned_abs b
abs-sum a b = omega (arith, ints)

pub abs-product : (a b : ℤ) (m n : ℕ) → unsigned_abs a ≤ m → unsigned_abs b ≤ n → unsigned_abs (a *ℤ b) ≤ m * n
abs-product a b m n p q = rw unsigned_abs-mul (grind arith)

at_least : (xs : List ℕ) → IsStrictlyIncreasing xs → (k : ℕ) → k < length xs → k ≤ get_or xs k 0
at_least xs up zero h = omega arith
at_least xs up (suc k) h =
    let s = rw add-one at (up k (omega arith)) in omega (arith, s, at_least xs up k (omega arith))

pub rising-short : (w : ℕ) (ts : List (ℕ × ℤ)) → All (IsTerm w) ts → IsStrictlyIncreasing (map (λ t. t.0) ts) → length ts ≤ w
rising-short w [] all up = omega arith
rising-short w (t ∷ ts) all up =
    let n = length ts in
    let last = at_least (map (λ t. t.0) (t ∷ ts)) up n (omega (arith, length-map (t ∷ ts) (λ (t : ℕ × ℤ). t.0))) in
    let same = get_or-map (λ (t : ℕ × ℤ). t.0) (t ∷ ts) n t 0 (omega arith) in
    omega (arith, last, same, (all n t (omega arith)).var)

-- one turn of a sum over the terms
pub turn_value : (env : Env) (k sum result f n : ℤ) (ts : List (ℕ × ℤ)) (i : ℕ) (d : ℕ × ℤ) → i < length ts → sum ≡ k +ℤ terms_at env (take i ts) → f ≡ (get_or ts i d).1 → n ≡ env (get_or ts i d).0 → result ≡ sum +ℤ f *ℤ n → result ≡ k +ℤ terms_at env (take (i + 1) ts)
turn_value env k sum result f n ts i d h s p q r =
    let product : f *ℤ n ≡ term_at env (get_or ts i d) = rw (p, q) refl in
    omega (arith, ints, terms_at-more env ts i d h, product)

pub turn_small : (sum result f n : ℤ) (bound m k : ℕ) → unsigned_abs sum ≤ bound → unsigned_abs f ≤ m → unsigned_abs n ≤ k → result ≡ sum +ℤ f *ℤ n → unsigned_abs result ≤ bound + m * k
turn_small sum result f n bound m k s p q r = rw r (omega (arith, abs-sum sum (f *ℤ n), abs-product f n m k p q))
