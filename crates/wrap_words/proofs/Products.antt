-- The product of two words' numbers, modulo 2^width.
use Rattle.std.proofs.Common.{◌≡◌, ℕ, ◌+◌, ◌*◌, ◌%◌, ◌<◌, ℤ, pos, ◌+ℤ◌, ◌*ℤ◌, ◌-ℤ◌, Bool, true, false, cond, nat_lt, arith, refl, ◌∙◌, sym}
use Rattle.std.proofs.Math.Nat.{add-mul-mod_self_right}
use Rattle.std.proofs.lemmas.Int.{ints, int_rem_euclid_is}
use Rattle.wrap_words.specs.declared.kind.Kind.{Kind}
use Rattle.wrap_words.specs.declared.kind.Kind.TheVariants.{I32, I64, U32, U64}
use Rattle.wrap_words.specs.declared.kind.Word.{Word}
use Rattle.wrap_words.specs.Words.{residue, modulus_of, first_negative, number_of}
use Rattle.wrap_words.proofs.Ring.{nat, plus, minus, times, same}

-- the rest of z, where z and k times n make m
pub residue_is : (z : ℤ) (n k m : ℕ) → 0 < n → z +ℤ pos (k * n) ≡ pos m → residue z n ≡ m % n
residue_is z n k m p e = rw (int_rem_euclid_is z (pos n) n k m p refl e)

-- the number of the bits a, where `low` says that they stand for themselves
abbrev pub signed : Bool → ℕ → ℕ → ℤ
signed low a n = cond low (pos a) (pos a -ℤ pos n)

residue_product : (s t : Bool) (a b n : ℕ) → 0 < n → residue (signed s a n *ℤ signed t b n) n ≡ a * b % n
residue_product true true a b n p = residue_is (pos a *ℤ pos b) n 0 (a * b) p (omega (arith, ints))
residue_product true false a b n p =
    residue_is (pos a *ℤ (pos b -ℤ pos n)) n a (a * b) p
    (same (plus (times (nat a) (minus (nat b) (nat n))) (nat (a * n))) (nat (a * b)) (omega arith))
residue_product false true a b n p =
    residue_is ((pos a -ℤ pos n) *ℤ pos b) n b (a * b) p
    (same (plus (times (minus (nat a) (nat n)) (nat b)) (nat (b * n))) (nat (a * b)) (omega arith))
residue_product false false a b n p =
    residue_is ((pos a -ℤ pos n) *ℤ (pos b -ℤ pos n)) n (a + b) (a * b + n * n) p
    (same (plus (times (minus (nat a) (nat n)) (minus (nat b) (nat n))) (nat ((a + b) * n))) (nat (a * b + n * n)) (omega arith))
    ∙ add-mul-mod_self_right (a * b) n n

pub modulus_of-pos : (k : Kind) → 0 < modulus_of k
modulus_of-pos I32 = omega arith
modulus_of-pos I64 = omega arith
modulus_of-pos U32 = omega arith
modulus_of-pos U64 = omega arith

pub product_bits : (k : Kind) (a b : Word) → a.bits * b.bits % modulus_of k ≡ residue (number_of k a *ℤ number_of k b) (modulus_of k)
product_bits k a b =
    sym (residue_product (nat_lt a.bits (first_negative k)) (nat_lt b.bits (first_negative k)) a.bits b.bits (modulus_of k) (modulus_of-pos k))
