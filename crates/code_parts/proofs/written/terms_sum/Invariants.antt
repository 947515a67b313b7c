use Rattle.std.proofs.Common.{◌≡◌, ◌-◌, ◌^◌, min, sum_by, take, unsigned_abs}
use Rattle.code_parts.proofs.written.terms_sum.Given as goal

abbrev pub invariant-loop-term : goal.invariant-loop-term
invariant-loop-term l = l.sum ≡ min (sum_by (λ t. unsigned_abs t.1) (take l.term-index l.terms)) (2 ^ 64 - 1)
