-- Words of a kind are the residues modulo 2^width.
use Rattle.std.proofs.Common.{◌≡◌, ℕ, ◌+◌, ◌-◌, ◌/◌, ◌%◌, ◌<◌, ◌≤◌, ℤ, pos, negsuc, ◌-ℤ◌, ◌≤ℤ◌, Bool, true, false, nat_lt, arith, refl, ap, ◌∙◌}
use Rattle.std.specs.Prelude.{◌<ℤ◌}
use Rattle.std.proofs.Math.Nat.{mod-eq_of_lt}
use Rattle.std.proofs.lemmas.Int.{ints}
use Rattle.wrap_words.specs.declared.kind.Kind.{Kind}
use Rattle.wrap_words.specs.declared.kind.Kind.TheVariants.{I32, I64, U32, U64}
use Rattle.wrap_words.specs.Words.{residue, modulus_of, first_negative}
use Rattle.wrap_words.specs.Residues.{AreCongruent, WordsAreResidues}
use Rattle.wrap_words.proofs.Ring.{atom, nat, plus, minus, times, same}
use Rattle.wrap_words.proofs.Products.{modulus_of-pos, residue_is, signed}

residue-lt : (z : ℤ) (n : ℕ) → 0 < n → residue z n < n
residue-lt (pos a) n p = omega arith
residue-lt (negsuc a) n p = omega arith

-- a number less a multiple of n is its residue
residue-congruent : (z : ℤ) (n : ℕ) → 0 < n → AreCongruent n (pos (residue z n)) z
residue-congruent (pos a) n p = (
  pos 0 -ℤ pos (a / n),
  same (nat (a % n)) (plus (nat a) (times (minus (nat 0) (nat (a / n))) (nat n))) (omega arith),
)
residue-congruent (negsuc a) n p = (
  pos (a / n + 1),
  same (nat (n - 1 - a % n)) (plus (atom (negsuc a)) (times (nat (a / n + 1)) (nat n))) (omega arith),
)

-- the same for bits that are read with a sign
less_once : (z y : ℤ) (n : ℕ) → AreCongruent n z y → AreCongruent n (z -ℤ pos n) y
less_once z y n c = (
  c.0 -ℤ pos 1,
  ap (λ (x : ℤ). x -ℤ pos n) c.1
      ∙ same (minus (plus (atom y) (times (atom c.0) (nat n))) (nat n)) (plus (atom y) (times (minus (atom c.0) (nat 1)) (nat n))) (omega arith),
)

signed-congruent : (low : Bool) (z : ℤ) (n : ℕ) → 0 < n → AreCongruent n (signed low (residue z n) n) z
signed-congruent true z n p = residue-congruent z n p
signed-congruent false z n p = less_once (pos (residue z n)) z n (residue-congruent z n p)

-- bits below n are the residue of their number
signed-back : (low : Bool) (a n : ℕ) → a < n → residue (signed low a n) n ≡ a
signed-back true a n h = residue_is (pos a) n 0 a (omega arith) (omega (arith, ints)) ∙ mod-eq_of_lt h
signed-back false a n h = residue_is (pos a -ℤ pos n) n 1 a (omega arith) (omega (arith, ints)) ∙ mod-eq_of_lt h

signed-low : (low : Bool) (a f n : ℕ) → nat_lt a f ≡ low → f ≤ n → (pos f -ℤ pos n) ≤ℤ signed low a n
signed-low true a f n e h = omega (arith, ints)
signed-low false a f n e h = grind (arith, ints)

signed-high : (low : Bool) (a f n : ℕ) → nat_lt a f ≡ low → a < n → f ≤ n → signed low a n <ℤ pos f
signed-high true a f n e g h = grind (arith, ints)
signed-high false a f n e g h = omega (arith, ints)

first_negative-le : (k : Kind) → first_negative k ≤ modulus_of k
first_negative-le I32 = omega arith
first_negative-le I64 = omega arith
first_negative-le U32 = omega arith
first_negative-le U64 = omega arith

pub words_are_residues : (k : Kind) → WordsAreResidues k
words_are_residues k = record {
  number = λ w h. record {
    low = signed-low (nat_lt w.bits (first_negative k)) w.bits (first_negative k) (modulus_of k) refl (first_negative-le k);
    high = signed-high (nat_lt w.bits (first_negative k)) w.bits (first_negative k) (modulus_of k) refl h (first_negative-le k);
  };
  back = λ w h. ap (λ (b : ℕ). record { bits = b }) (signed-back (nat_lt w.bits (first_negative k)) w.bits (modulus_of k) h);
  word = λ z. residue-lt z (modulus_of k) (modulus_of-pos k);
  congruent = λ z. signed-congruent (nat_lt (residue z (modulus_of k)) (first_negative k)) z (modulus_of k) (modulus_of-pos k);
}
