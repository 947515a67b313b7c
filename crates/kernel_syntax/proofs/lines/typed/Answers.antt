use Rattle.kernel_syntax.proofs.Leads.{ended, sign_on, name_on, kind_on, no_sign, no_name, no_kind, passes}
use Rattle.kernel_syntax.proofs.LineEnds.{typed_start, some_typed, some_kind}
use Rattle.kernel_syntax.proofs.ChainEnds.{reads_within}
use Rattle.kernel_syntax.proofs.LineSteps.{typed_read}
use Rattle.std.proofs.Common.{refl}
use Rattle.kernel_syntax.proofs.lines.typed.Goals as goal

pub returns-clause-read : goal.returns-clause-read
returns-clause-read c = typed_read _ _ _ _ _ _ _ _ c.in_ok-name.ensures.read c.in_ok-at.ensures.read.0 c.in_ok-at.ensures.read.1 c.in_ok-kind.ensures.read.0 c.in_ok-kind.ensures.read.1

pub returns-in_err-name-clause-stops : goal.returns-in_err-name-clause-stops
returns-in_err-name-clause-stops c = λ within. let h = typed_start _ _ within in passes _ _ _ c.from_residual.ensures.1 (no_name _ h some_typed c.in_err-name.ensures.stops)

pub returns-in_err-at-clause-stops : goal.returns-in_err-at-clause-stops
returns-in_err-at-clause-stops c = λ within. let h = (name_on (typed_start _ _ within) c.in_ok-name.ensures.read c.in_ok-name.ensures.next) in passes _ _ _ c.from_residual-in_err-at.ensures.1 (no_sign _ h some_kind c.in_err-at.ensures.stops)

pub returns-in_err-kind-clause-stops : goal.returns-in_err-kind-clause-stops
returns-in_err-kind-clause-stops c = λ within. let h = (sign_on (name_on (typed_start _ _ within) c.in_ok-name.ensures.read c.in_ok-name.ensures.next) c.in_ok-at.ensures.read) in passes _ _ _ c.from_residual-in_err-kind.ensures.1 (no_kind _ h refl c.in_err-kind.ensures.stops)

pub returns-clause-ends : goal.returns-clause-ends
returns-clause-ends c = ended (kind_on _ (sign_on (name_on (typed_start _ _ (reads_within _ _ _ _ c.in_ok-name.ensures.read)) c.in_ok-name.ensures.read c.in_ok-name.ensures.next) c.in_ok-at.ensures.read) c.in_ok-kind.ensures.read)
