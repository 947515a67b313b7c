-- Words as numbers modulo 2^width.
use Rattle.std.specs.Prelude.{ℕ, ◌^◌, ◌<◌, ℤ, pos, ◌-ℤ◌, nat_lt, if◌then◌else◌, unsigned_abs, int_lt}
use Rattle.std.specs.Int.{int_rem_euclid}
use Rattle.wrap_words.specs.declared.kind.Kind.{Kind}
use Rattle.wrap_words.specs.declared.kind.Kind.TheVariants.{I32, I64, U32, U64}
use Rattle.wrap_words.specs.declared.kind.Word.{Word}

-- how many words a kind has
abbrev pub modulus_of : Kind → ℕ
modulus_of I32 = 2 ^ 32
modulus_of I64 = 2 ^ 64
modulus_of U32 = 2 ^ 32
modulus_of U64 = 2 ^ 64

-- the first bits that stand for a negative number; the modulus for an unsigned kind
abbrev pub first_negative : Kind → ℕ
first_negative I32 = 2 ^ 31
first_negative I64 = 2 ^ 63
first_negative U32 = 2 ^ 32
first_negative U64 = 2 ^ 64

-- the word has the kind
abbrev pub IsWord : Kind → Word → Type 0
IsWord k w = w.bits < modulus_of k

-- the rest of a number modulo n, from 0
abbrev pub residue : ℤ → ℕ → ℕ
residue z n = unsigned_abs (int_rem_euclid z (pos n))

-- the word of a number
abbrev pub word_of : Kind → ℤ → Word
word_of k z = record { bits = residue z (modulus_of k) }

-- the number of a word
abbrev pub number_of : Kind → Word → ℤ
number_of k w = if nat_lt w.bits (first_negative k) then pos w.bits else pos w.bits -ℤ pos (modulus_of k)

-- the word with the smaller number, the first on a tie
abbrev pub least_of : Kind → Word → Word → Word
least_of k a b = if int_lt (number_of k b) (number_of k a) then b else a

-- the word with the greater number, the first on a tie
abbrev pub greatest_of : Kind → Word → Word → Word
greatest_of k a b = if int_lt (number_of k a) (number_of k b) then b else a

abbrev pub width_of : Kind → ℕ
width_of I32 = 32
width_of I64 = 64
width_of U32 = 32
width_of U64 = 64

abbrev pub IsUnsigned : Kind → Type 0
IsUnsigned I32 = ⊥
IsUnsigned I64 = ⊥
IsUnsigned U32 = Unit {0}
IsUnsigned U64 = Unit {0}
