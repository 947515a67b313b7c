use Rattle.kernel_syntax.proofs.Leads.{ended, sign_on, no_sign, passes}
use Rattle.kernel_syntax.proofs.InsnEnds.{stored_sign, stored_extreme, stored_stop}
use Rattle.std.proofs.Common.{refl}
use Rattle.kernel_syntax.proofs.insn.stored.Goals as goal

pub returns-in-Some-clause-ends : goal.returns-in-Some-clause-ends
returns-in-Some-clause-ends c = ended (sign_on (stored_sign _ _ _ _ c.in-Some.ensures.1 c.in-Some.ensures.2) (refl, c.in-Some.ensures.2))

pub returns-in_default-extreme_at-clause-stops : goal.returns-in_default-extreme_at-clause-stops
returns-in_default-extreme_at-clause-stops c = λ within. stored_stop _ _ within c.in_default.ensures c.in_default-extreme_at.ensures

pub returns-in_err-at-clause-stops : goal.returns-in_err-at-clause-stops
returns-in_err-at-clause-stops c = λ within. passes _ _ _ c.from_residual.ensures.1 (no_sign _ (sign_on (stored_extreme _ _ _ c.in-Some-extreme_at.ensures) (refl, c.in-Some-extreme_at.ensures)) refl c.in_err-at.ensures.stops)

pub returns-clause-ends : goal.returns-clause-ends
returns-clause-ends c = ended (sign_on (sign_on (stored_extreme _ _ _ c.in-Some-extreme_at.ensures) (refl, c.in-Some-extreme_at.ensures)) c.in_ok-at.ensures.read)
