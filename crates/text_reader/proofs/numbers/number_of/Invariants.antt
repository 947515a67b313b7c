use Rattle.std.proofs.Common.{◌≡◌, drop}
use Rattle.text_reader.specs.Numbers.{value_of, value_after}
use Rattle.text_reader.proofs.numbers.number_of.Given as goal

abbrev pub invariant-loop-digit : goal.invariant-loop-digit
invariant-loop-digit l = value_after l.number (drop l.digit-index l.digits) ≡ value_of l.digits
