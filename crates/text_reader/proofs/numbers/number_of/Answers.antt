use Rattle.std.proofs.Common.{arith}
use Rattle.text_reader.proofs.Values.{too_large, at_none}
use Rattle.text_reader.proofs.numbers.number_of.Goals as goal

pub returns-in_err-number : goal.returns-in_err-number
returns-in_err-number c = at_none _ _ _ c.from_residual.ensures (too_large c.loop-digit.number c.args.digits.now c.loop-digit.digit-index (omega arith) c.loop-digit.invariant (c.in_err-number.ensures))
