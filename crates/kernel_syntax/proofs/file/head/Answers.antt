use Rattle.kernel_syntax.proofs.Leads.{sign_on, no_sign, next_within, passes}
use Rattle.kernel_syntax.proofs.FileEnds.{head_start, known, other_sign, no_one, other_number, this_number, equal, unequal, sign_ends_through, sign_stops_through}
use Rattle.std.proofs.Common.{refl, codes}
use Rattle.kernel_syntax.proofs.file.head.Goals as goal

pub returns-in_default-clause-stops : goal.returns-in_default-clause-stops
returns-in_default-clause-stops c = λ within. other_sign (head_start _ _ within) refl c.in_default.ensures

pub returns-in_err-digits-clause-stops : goal.returns-in_err-digits-clause-stops
returns-in_err-digits-clause-stops c = λ within. passes _ _ _ c.from_residual.ensures.1 (no_sign _ (known (sign_on (head_start _ _ within) c.in-Some.ensures)) refl (no_one _ _ _ c.in_err-digits.ensures.stops))

pub returns-then-ne-clause-stops : goal.returns-then-ne-clause-stops
returns-then-ne-clause-stops c = λ within. other_sign (known (sign_on (head_start _ _ within) c.in-Some.ensures)) refl (other_number _ _ _ c.in_ok-digits.ensures.read.1 (unequal c.in_ok-digits.digits.now c.as_slice.result.now (codes "1") c.as_slice.ensures c.if-ne.ensures))

pub returns-clause-ends : goal.returns-clause-ends
returns-clause-ends c = sign_ends_through _ (known (sign_on (known (sign_on (head_start _ _ (next_within _ _ _ c.in-Some.ensures.1)) c.in-Some.ensures)) (c.in_ok-digits.ensures.read.0, (this_number _ _ _ c.in_ok-digits.ensures.read.1 (equal c.in_ok-digits.digits.now c.as_slice.result.now (codes "1") c.as_slice.ensures c.if-ne.ensures))))) c.end_of_line.ensures.read

pub returns-clause-stops : goal.returns-clause-stops
returns-clause-stops c = λ within. sign_stops_through _ (known (sign_on (known (sign_on (head_start _ _ within) c.in-Some.ensures)) (c.in_ok-digits.ensures.read.0, (this_number _ _ _ c.in_ok-digits.ensures.read.1 (equal c.in_ok-digits.digits.now c.as_slice.result.now (codes "1") c.as_slice.ensures c.if-ne.ensures))))) c.end_of_line.ensures.stops
