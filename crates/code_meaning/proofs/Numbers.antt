-- Numbers that 64 signed bits hold.
use Rattle.std.proofs.Common.{◌≡◌, ◌<◌, ◌^◌, ◌-◌, ℤ, pos, neg_ℤ, ◌-ℤ◌, true, false, int_lt, Some, unsigned_abs, arith, refl, ◌∙◌, ap}
use Rattle.std.proofs.lemmas.Int.{ints}
use Rattle.code_meaning.specs.Exact.{exact, lesser, greater}
use Rattle.code_meaning.specs.Ranges.{near}

pub exact_small : (z : ℤ) → unsigned_abs z < 2 ^ 63 → exact z ≡ Some z
exact_small z h = grind (arith, ints)

lesser_first : (a b : ℤ) → int_lt a b ≡ true → lesser a b ≡ a
lesser_first a b e = rw e refl

greater_last : (a b : ℤ) → int_lt a b ≡ true → greater a b ≡ b
greater_last a b e = rw e refl

greater_first : (a b : ℤ) → int_lt a b ≡ false → greater a b ≡ a
greater_first a b e = rw e refl

below_most : (z : ℤ) → unsigned_abs z < 2 ^ 63 - 1 → int_lt z (pos (2 ^ 63) -ℤ pos 1) ≡ true
below_most z h = grind (arith, ints)

above_least : (z : ℤ) → unsigned_abs z < 2 ^ 63 - 1 → int_lt (neg_ℤ (pos (2 ^ 63))) z ≡ true
above_least z h = grind (arith, ints)

pub near_small : (z : ℤ) → unsigned_abs z < 2 ^ 63 - 1 → near z ≡ z
near_small z h = ap (greater (neg_ℤ (pos (2 ^ 63)))) (lesser_first z (pos (2 ^ 63) -ℤ pos 1) (below_most z h)) ∙ greater_last (neg_ℤ (pos (2 ^ 63))) z (above_least z h)
