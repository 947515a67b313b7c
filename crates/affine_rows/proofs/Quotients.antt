-- How large a rounded quotient gets.
use Rattle.std.proofs.Common.{ℕ, suc, ◌+◌, ◌-◌, ◌*◌, ◌/◌, ◌^◌, ◌<◌, ◌≤◌, ℤ, pos, negsuc, ◌≤ℤ◌, arith, unsigned_abs}
use Rattle.std.specs.Int.{int_div_euclid}
use Rattle.std.proofs.lemmas.Int.{ints}
use Rattle.std.proofs.Math.Nat.{mul-le-mul_left, div-mul-le_self, lt_of_mul-lt-mul_right, lt-div-mul-add}
use Rattle.std.proofs.lemmas.Nat.{le-div}
use Rattle.affine_rows.specs.Forms.{ceil_div}

up_to : (a b : ℕ) → 0 < b → a / b ≤ (a + (b - 1)) / b
up_to a b p = le-div (a / b) (a + (b - 1)) b p (omega (arith, div-mul-le_self a b))

next_up : (a b : ℕ) → 0 < b → suc (a / b) ≤ (suc a + (b - 1)) / b
next_up a b p = le-div (suc (a / b)) (suc a + (b - 1)) b p (omega (arith, div-mul-le_self a b))

abs-quotient : (a : ℤ) (n : ℕ) → 0 < n → unsigned_abs (int_div_euclid a (pos n)) ≤ ceil_div (unsigned_abs a) n
abs-quotient (pos a) n p = up_to a n p
abs-quotient (negsuc a) n p = next_up a n p

pub quotient_small : (a by : ℤ) → pos 1 ≤ℤ by → unsigned_abs (int_div_euclid a by) ≤ ceil_div (unsigned_abs a) (unsigned_abs by)
quotient_small a (pos n) h = abs-quotient a n (omega (arith, ints))
quotient_small a (negsuc n) h = absurd (omega (arith, ints))

-- a number is covered by its quotient rounded up, which is the least such number
ceil_div-above : (a n : ℕ) → 0 < n → a ≤ ceil_div a n * n
ceil_div-above a n p = let near : a + (n - 1) < (a + (n - 1)) / n * n + n = lt-div-mul-add p in omega (arith, near)

ceil_div-least : (a n m : ℕ) → 0 < n → a ≤ m * n → ceil_div a n ≤ m
ceil_div-least a n m p h =
    let below : ceil_div a n < m + 1 = lt_of_mul-lt-mul_right n (omega (arith, div-mul-le_self (a + (n - 1)) n)) in
    omega (arith, below)

pub ceil_div-reach : (v a b n : ℕ) → 0 < n → v ≤ a + 2 ^ 63 * b → ceil_div v n ≤ ceil_div a n + 2 ^ 63 * ceil_div b n
ceil_div-reach v a b n p h =
    ceil_div-least v n (ceil_div a n + 2 ^ 63 * ceil_div b n) p (omega (arith, ceil_div-above a n p, ceil_div-above b n p))

pub product_reach : (t n a b : ℕ) → n ≤ a + 2 ^ 63 * b → t * n ≤ t * a + 2 ^ 63 * (t * b)
product_reach t n a b h = omega (arith, mul-le-mul_left t h)
