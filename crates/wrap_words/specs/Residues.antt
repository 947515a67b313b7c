-- What makes words and numbers fit: words of a kind are the residues modulo 2^width.
use Rattle.std.specs.Prelude.{◌≡◌, ℕ, ℤ, pos, ◌+ℤ◌, ◌-ℤ◌, ◌*ℤ◌, ◌≤ℤ◌, ◌<ℤ◌}
use Rattle.wrap_words.specs.declared.kind.Kind.{Kind}
use Rattle.wrap_words.specs.declared.kind.Word.{Word}
use Rattle.wrap_words.specs.Words.{IsWord, first_negative, modulus_of, number_of, word_of}

-- the numbers of the kind: 2^width of them, from the least that two's complement or an unsigned word has
pub record IsNumber (k : Kind) (z : ℤ) : Type 0 where
  pub low : (pos (first_negative k) -ℤ pos (modulus_of k)) ≤ℤ z
  pub high : z <ℤ pos (first_negative k)

-- z and y differ by a multiple of n
abbrev pub AreCongruent : ℕ → ℤ → ℤ → Type 0
AreCongruent n z y = (q : ℤ) × (z ≡ y +ℤ (q *ℤ pos n))

-- Each word has a number of its kind and is that number's word; each number's word is a word of the kind, whose number is congruent to it.
pub record WordsAreResidues (k : Kind) : Type 0 where
  pub number : (w : Word) → IsWord k w → IsNumber k (number_of k w)
  pub back : (w : Word) → IsWord k w → word_of k (number_of k w) ≡ w
  pub word : (z : ℤ) → IsWord k (word_of k z)
  pub congruent : (z : ℤ) → AreCongruent (modulus_of k) (number_of k (word_of k z)) z
