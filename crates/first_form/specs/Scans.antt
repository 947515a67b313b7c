-- What stands at the front of bytes.
use Rattle.std.specs.Prelude.{◌≡◌, ℕ, ◌≤◌, Bool, true, not, ◌==◌, List, [], ◌∷◌, ◌++◌}
use Rattle.std.specs.Fmt.{decimal}
use Rattle.std.specs.Char.{is_ascii_digit}
use Rattle.std.specs.List.{list_all}
use Rattle.first_form.specs.declared.scan.Class.{Class}
use Rattle.first_form.specs.declared.scan.Class.TheVariants.{Word, Digit, Line}
use Rattle.first_form.specs.Names.{is_word_byte, is_name}

-- a letter, a digit or `_`; a digit; no line feed
abbrev pub is_of : Class → ℕ → Bool
is_of Word = is_word_byte
is_of Digit = is_ascii_digit
is_of Line = λ c. not (c == 10)

-- the bytes do not begin with one that passes
abbrev pub ends : (ℕ → Bool) → List ℕ → Bool
ends test [] = true
ends test (c ∷ cs) = not (test c)

-- The front is all of bytes that pass, and the rest does not go on with one.
pub record IsRun (test : ℕ → Bool) (bytes front rest : List ℕ) : Type 0 where
  pub text : bytes ≡ front ++ rest
  pub passes : list_all test front ≡ true
  pub ended : ends test rest ≡ true

-- After the text comes a whole name, and then the rest.
pub record IsNameAfter (text bytes name rest : List ℕ) : Type 0 where
  pub is : bytes ≡ text ++ (name ++ rest)
  pub named : is_name name ≡ true
  pub ended : ends is_word_byte rest ≡ true

-- A factor within its limit, without a leading zero, and then the rest.
pub record IsFactorAt (bytes : List ℕ) (factor : ℕ) (rest : List ℕ) : Type 0 where
  pub is : bytes ≡ decimal factor ++ rest
  pub small : factor ≤ 1048576
  pub ended : ends is_ascii_digit rest ≡ true
