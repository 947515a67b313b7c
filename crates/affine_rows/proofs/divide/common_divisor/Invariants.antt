use Rattle.std.proofs.Common.{◌≡◌, ◌≤◌, ◌^◌, take, fold}
use Rattle.affine_rows.proofs.Divisors.{step}
use Rattle.affine_rows.proofs.divide.common_divisor.Given as goal

abbrev pub invariant-loop-term : goal.invariant-loop-term
invariant-loop-term l = record {
  value : l.divisor ≡ fold step l.fn.start (take l.term-index l.terms);
  small : l.divisor ≤ 2 ^ 126;
}
