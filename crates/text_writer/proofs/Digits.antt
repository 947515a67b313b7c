-- The digits of a number, one more at the end, and the number after a number.
use Rattle.std.proofs.Common.{◌≡◌, ℕ, ◌+◌, ◌≤ℤ◌, ℤ, pos, ◌+ℤ◌, unsigned_abs, int_lt, false, append_assoc, refl, arith}
use Rattle.std.proofs.lemmas.Int.{ints}
use Rattle.std.proofs.lemmas.Fmt.{decimal_digit, decimal_step}
use Rattle.std.specs.Fmt.{decimal}
use Rattle.text_writer.specs.NumberText.{number_text}

pub ruleset digit_rules = (decimal_digit, decimal_step, append_assoc)

next_sign : (z : ℤ) → pos 0 ≤ℤ z → int_lt (z +ℤ pos 1) (pos 0) ≡ false
next_sign z h = grind (arith, ints)

next_size : (z : ℤ) → pos 0 ≤ℤ z → unsigned_abs (z +ℤ pos 1) ≡ unsigned_abs z + 1
next_size z h = grind (arith, ints)

pub next_text : (z : ℤ) → pos 0 ≤ℤ z → number_text (z +ℤ pos 1) ≡ decimal (unsigned_abs z + 1)
next_text z h = rw (next_sign z h, next_size z h) refl
