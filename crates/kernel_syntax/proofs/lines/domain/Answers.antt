use Rattle.kernel_syntax.proofs.Leads.{ended, sign_on, part_on, no_sign, no_part, spelled, passes}
use Rattle.kernel_syntax.proofs.LineEnds.{domain_opens, brace_follows, some_known, some_arrow, some_brace, some_inner, some_made, some_ruled, some_closed}
use Rattle.kernel_syntax.proofs.LineSteps.{domain_read}
use Rattle.std.proofs.Common.{refl}
use Rattle.kernel_syntax.proofs.lines.domain.Goals as goal

pub returns-clause-read : goal.returns-clause-read
returns-clause-read c = domain_read _ _ _ _ _ _ _ _ _ _ _ _ _ _ c.requires c.in_ok-at.ensures.read.0 c.in_ok-at.ensures.read.1 c.in_ok-known.ensures.read c.in_ok-at-2.ensures.read.0 c.in_ok-at-2.ensures.read.1 c.in_ok-at-3.ensures.read.0 c.in_ok-at-3.ensures.read.1 c.in_ok-at-4.ensures.read.0 c.in_ok-at-4.ensures.read.1 c.in_ok-inames.ensures.read c.in_ok-conditions.ensures.read c.in_ok-at-5.ensures.read.0 c.in_ok-at-5.ensures.read.1

pub returns-in_err-at-clause-stops : goal.returns-in_err-at-clause-stops
returns-in_err-at-clause-stops c = let h = (domain_opens _ _ c.requires) in passes _ _ _ c.from_residual.ensures.1 (no_sign _ h some_known c.in_err-at.ensures.stops)

pub returns-in_err-known-clause-stops : goal.returns-in_err-known-clause-stops
returns-in_err-known-clause-stops c = let h = (sign_on (domain_opens _ _ c.requires) c.in_ok-at.ensures.read) in passes _ _ _ c.from_residual-in_err-known.ensures.1 (no_part _ _ h some_arrow (λ text rest q b. tt) (c.in_err-known.ensures.stops h.within))

pub returns-in_err-at-2-clause-stops : goal.returns-in_err-at-2-clause-stops
returns-in_err-at-2-clause-stops c = let h = (part_on (sign_on (domain_opens _ _ c.requires) c.in_ok-at.ensures.read) (spelled c.in_ok-known.ensures.read) c.in_ok-known.ensures.ends (λ text rest q b. tt)) in passes _ _ _ c.from_residual-in_err-at-2.ensures.1 (no_sign _ h some_brace c.in_err-at-2.ensures.stops)

pub returns-in_err-at-3-clause-stops : goal.returns-in_err-at-3-clause-stops
returns-in_err-at-3-clause-stops c = let h = (sign_on (part_on (sign_on (domain_opens _ _ c.requires) c.in_ok-at.ensures.read) (spelled c.in_ok-known.ensures.read) c.in_ok-known.ensures.ends (λ text rest q b. tt)) c.in_ok-at-2.ensures.read) in passes _ _ _ c.from_residual-in_err-at-3.ensures.1 (no_sign _ h some_inner c.in_err-at-3.ensures.stops)

pub returns-in_err-at-4-clause-stops : goal.returns-in_err-at-4-clause-stops
returns-in_err-at-4-clause-stops c = let h = (sign_on (sign_on (part_on (sign_on (domain_opens _ _ c.requires) c.in_ok-at.ensures.read) (spelled c.in_ok-known.ensures.read) c.in_ok-known.ensures.ends (λ text rest q b. tt)) c.in_ok-at-2.ensures.read) c.in_ok-at-3.ensures.read) in passes _ _ _ c.from_residual-in_err-at-4.ensures.1 (no_sign _ h some_made c.in_err-at-4.ensures.stops)

pub returns-in_err-inames-clause-stops : goal.returns-in_err-inames-clause-stops
returns-in_err-inames-clause-stops c = let h = (sign_on (sign_on (sign_on (part_on (sign_on (domain_opens _ _ c.requires) c.in_ok-at.ensures.read) (spelled c.in_ok-known.ensures.read) c.in_ok-known.ensures.ends (λ text rest q b. tt)) c.in_ok-at-2.ensures.read) c.in_ok-at-3.ensures.read) c.in_ok-at-4.ensures.read) in passes _ _ _ c.from_residual-in_err-inames.ensures.1 (no_part _ _ h some_ruled (λ text rest q b. tt) (c.in_err-inames.ensures.stops h.within))

pub returns-in_err-conditions-clause-stops : goal.returns-in_err-conditions-clause-stops
returns-in_err-conditions-clause-stops c = let h = (part_on (sign_on (sign_on (sign_on (part_on (sign_on (domain_opens _ _ c.requires) c.in_ok-at.ensures.read) (spelled c.in_ok-known.ensures.read) c.in_ok-known.ensures.ends (λ text rest q b. tt)) c.in_ok-at-2.ensures.read) c.in_ok-at-3.ensures.read) c.in_ok-at-4.ensures.read) (spelled c.in_ok-inames.ensures.read) c.in_ok-inames.ensures.ends (λ text rest q b. tt)) in passes _ _ _ c.from_residual-in_err-conditions.ensures.1 (no_part _ _ h some_closed (brace_follows _) c.in_err-conditions.ensures.stops)

pub returns-in_err-at-5-clause-stops : goal.returns-in_err-at-5-clause-stops
returns-in_err-at-5-clause-stops c = let h = (part_on (part_on (sign_on (sign_on (sign_on (part_on (sign_on (domain_opens _ _ c.requires) c.in_ok-at.ensures.read) (spelled c.in_ok-known.ensures.read) c.in_ok-known.ensures.ends (λ text rest q b. tt)) c.in_ok-at-2.ensures.read) c.in_ok-at-3.ensures.read) c.in_ok-at-4.ensures.read) (spelled c.in_ok-inames.ensures.read) c.in_ok-inames.ensures.ends (λ text rest q b. tt)) (spelled c.in_ok-conditions.ensures.read) c.in_ok-conditions.ensures.ends (brace_follows _)) in passes _ _ _ c.from_residual-in_err-at-5.ensures.1 (no_sign _ h refl c.in_err-at-5.ensures.stops)

pub returns-clause-ends : goal.returns-clause-ends
returns-clause-ends c = ended (sign_on (part_on (part_on (sign_on (sign_on (sign_on (part_on (sign_on (domain_opens _ _ c.requires) c.in_ok-at.ensures.read) (spelled c.in_ok-known.ensures.read) c.in_ok-known.ensures.ends (λ text rest q b. tt)) c.in_ok-at-2.ensures.read) c.in_ok-at-3.ensures.read) c.in_ok-at-4.ensures.read) (spelled c.in_ok-inames.ensures.read) c.in_ok-inames.ensures.ends (λ text rest q b. tt)) (spelled c.in_ok-conditions.ensures.read) c.in_ok-conditions.ensures.ends (brace_follows _)) c.in_ok-at-5.ensures.read)
