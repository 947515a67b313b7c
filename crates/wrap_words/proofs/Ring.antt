-- Whole numbers: identities of polynomials, and order under products with a natural.
-- For an identity each side is written as a difference of two naturals, and `omega` compares those.
use Rattle.std.proofs.Common.{◌≡◌, ℕ, ◌+◌, ◌*◌, ◌<◌, ◌≤◌, ℤ, pos, neg_ℤ, ◌+ℤ◌, ◌*ℤ◌, ◌-ℤ◌, ◌≤ℤ◌, arith, ap}
use Rattle.std.proofs.Math.Nat.{mul-le-mul_left, le_of_mul-le-mul_left}
use Rattle.std.proofs.lemmas.Int.{ints}
use borrow.Author.Differences.{up, down, product_is}

-- z is u minus d
pub record IsDiff (z : ℤ) (u d : ℕ) : Type 0 where
  pub is : z +ℤ pos d ≡ pos u

pub atom : (z : ℤ) → IsDiff z (up z) (down z)
atom z = record { is = omega (arith, ints) }

pub nat : (n : ℕ) → IsDiff (pos n) n 0
nat n = record { is = omega (arith, ints) }

pub plus : {z w : ℤ} {u d v e : ℕ} → IsDiff z u d → IsDiff w v e → IsDiff (z +ℤ w) (u + v) (d + e)
plus p q = record { is = omega (arith, ints, p.is, q.is) }

pub minus : {z w : ℤ} {u d v e : ℕ} → IsDiff z u d → IsDiff w v e → IsDiff (z -ℤ w) (u + e) (d + v)
minus p q = record { is = omega (arith, ints, p.is, q.is) }

pub negated : {z : ℤ} {u d : ℕ} → IsDiff z u d → IsDiff (neg_ℤ z) d u
negated p = record { is = omega (arith, ints, p.is) }

parts : {z : ℤ} {u d : ℕ} → IsDiff z u d → up z + d ≡ u + down z
parts p = omega (arith, ints, p.is)

pub times : {z w : ℤ} {u d v e : ℕ} → IsDiff z u d → IsDiff w v e → IsDiff (z *ℤ w) (u * v + d * e) (u * e + d * v)
times {z} {w} {u} {d} {v} {e} p q =
    let a : (up z + d) * up w ≡ (u + down z) * up w = ap (λ k. k * up w) (parts p) in
    let b : (up z + d) * down w ≡ (u + down z) * down w = ap (λ k. k * down w) (parts p) in
    let f : u * (up w + e) ≡ u * (v + down w) = ap (λ k. u * k) (parts q) in
    let g : d * (up w + e) ≡ d * (v + down w) = ap (λ k. d * k) (parts q) in
    record { is = omega (arith, ints, product_is z w) }

pub same : {z w : ℤ} {u d v e : ℕ} → IsDiff z u d → IsDiff w v e → u + e ≡ v + d → z ≡ w
same p q h = omega (arith, ints, p.is, q.is)

pub comm : (a b : ℤ) → a *ℤ b ≡ b *ℤ a
comm a b = same (times (atom a) (atom b)) (times (atom b) (atom a)) (omega arith)

pub distrib : (a b c : ℤ) → a *ℤ (b +ℤ c) ≡ (a *ℤ b) +ℤ (a *ℤ c)
distrib a b c =
    same (times (atom a) (plus (atom b) (atom c))) (plus (times (atom a) (atom b)) (times (atom a) (atom c))) (omega arith)

pub distrib_right : (a b c : ℤ) → (a +ℤ b) *ℤ c ≡ (a *ℤ c) +ℤ (b *ℤ c)
distrib_right a b c =
    same (times (plus (atom a) (atom b)) (atom c)) (plus (times (atom a) (atom c)) (times (atom b) (atom c))) (omega arith)

pub assoc : (a b c : ℤ) → (a *ℤ b) *ℤ c ≡ a *ℤ (b *ℤ c)
assoc a b c =
    same (times (times (atom a) (atom b)) (atom c)) (times (atom a) (times (atom b) (atom c))) (omega arith)

-- the first two factors change places
pub swap : (a b c : ℤ) → a *ℤ (b *ℤ c) ≡ b *ℤ (a *ℤ c)
swap a b c =
    same (times (atom a) (times (atom b) (atom c))) (times (atom b) (times (atom a) (atom c))) (omega arith)

pub neg_right : (a b : ℤ) → a *ℤ neg_ℤ b ≡ neg_ℤ (a *ℤ b)
neg_right a b = same (times (atom a) (negated (atom b))) (negated (times (atom a) (atom b))) (omega arith)

-- two natural factors as one
pub pos_assoc : (n m : ℕ) (b : ℤ) → pos n *ℤ (pos m *ℤ b) ≡ pos (n * m) *ℤ b
pos_assoc n m b =
    same (times (nat n) (times (nat m) (atom b))) (times (nat (n * m)) (atom b)) (omega arith)

pub scaled_le : (n : ℕ) (a b : ℤ) → a ≤ℤ b → (pos n *ℤ a) ≤ℤ (pos n *ℤ b)
scaled_le n a b h =
    let f : up a + down b ≤ up b + down a = omega (arith, ints) in
    omega (arith, ints, mul-le-mul_left n f)

pub scaled_le-cancel : (n : ℕ) (a b : ℤ) → 0 < n → (pos n *ℤ a) ≤ℤ (pos n *ℤ b) → a ≤ℤ b
scaled_le-cancel n a b positive h =
    let f : n * (up a + down b) ≤ n * (up b + down a) = omega (arith, ints) in
    let g : up a + down b ≤ up b + down a = le_of_mul-le-mul_left f positive in
    omega (arith, ints)

pub scaled-cancel : (n : ℕ) (a b : ℤ) → 0 < n → pos n *ℤ a ≡ pos n *ℤ b → a ≡ b
scaled-cancel n a b positive h =
    let low : a ≤ℤ b = scaled_le-cancel n a b positive (omega (arith, ints)) in
    let high : b ≤ℤ a = scaled_le-cancel n b a positive (omega (arith, ints)) in
    omega (arith, ints)

pub nonneg : (n : ℕ) (b : ℤ) → pos 0 ≤ℤ b → pos 0 ≤ℤ (pos n *ℤ b)
nonneg n b h = let f = scaled_le n (pos 0) b h in omega (arith, ints)

pub nonneg-cancel : (n : ℕ) (b : ℤ) → 0 < n → pos 0 ≤ℤ (pos n *ℤ b) → pos 0 ≤ℤ b
nonneg-cancel n b positive h = scaled_le-cancel n (pos 0) b positive (omega (arith, ints))

pub zero-cancel : (n : ℕ) (b : ℤ) → 0 < n → pos n *ℤ b ≡ pos 0 → b ≡ pos 0
zero-cancel n b positive h = scaled-cancel n b (pos 0) positive (omega (arith, ints))

-- Fractions x / n with a natural n above 0: if the first is at most the second and the second at most the third,
-- the first is at most the third.
pub cross_trans : (n1 n2 n3 : ℕ) (x1 x2 x3 : ℤ) → 0 < n2 → (pos n2 *ℤ x1) ≤ℤ (pos n1 *ℤ x2) → (pos n3 *ℤ x2) ≤ℤ (pos n2 *ℤ x3) → (pos n3 *ℤ x1) ≤ℤ (pos n1 *ℤ x3)
cross_trans n1 n2 n3 x1 x2 x3 positive first second =
    let f : n2 * up x1 + n1 * down x2 ≤ n1 * up x2 + n2 * down x1 = omega (arith, ints) in
    let s : n3 * up x2 + n2 * down x3 ≤ n2 * up x3 + n3 * down x2 = omega (arith, ints) in
    let both : n2 * (n3 * up x1 + n1 * down x3) ≤ n2 * (n1 * up x3 + n3 * down x1) = omega (arith, mul-le-mul_left n3 f, mul-le-mul_left n1 s) in
    let last : n3 * up x1 + n1 * down x3 ≤ n1 * up x3 + n3 * down x1 = le_of_mul-le-mul_left both positive in
    omega (arith, ints)
