use Rattle.kernel_syntax.proofs.Leads.{ended, sign_on, name_on, name_last, no_sign, no_name, passes, a_spelling, some_name}
use Rattle.kernel_syntax.proofs.InsnEnds.{id_opens}
use Rattle.kernel_grammar.specs.Spelling.{name_text}
use Rattle.std.proofs.Common.{refl}
use Rattle.kernel_syntax.proofs.LineSteps.{id_read}
use Rattle.kernel_syntax.proofs.insn.id.Goals as goal

pub returns-clause-read : goal.returns-clause-read
returns-clause-read c = id_read _ _ _ _ _ _ c.requires c.in_ok-at.ensures.read.0 c.in_ok-at.ensures.read.1 c.in_ok-id.ensures.read

pub returns-in_err-at-clause-stops : goal.returns-in_err-at-clause-stops
returns-in_err-at-clause-stops c = passes _ _ _ c.from_residual.ensures.1 (no_sign _ (id_opens _ _ c.requires) (a_spelling name_text some_name) c.in_err-at.ensures.stops)

pub returns-in_err-id-clause-stops : goal.returns-in_err-id-clause-stops
returns-in_err-id-clause-stops c = passes _ _ _ c.from_residual-in_err-id.ensures.1 (no_name _ (name_last (sign_on (id_opens _ _ c.requires) c.in_ok-at.ensures.read)) refl c.in_err-id.ensures.stops)

pub returns-clause-ends : goal.returns-clause-ends
returns-clause-ends c = ended (name_on (name_last (sign_on (id_opens _ _ c.requires) c.in_ok-at.ensures.read)) c.in_ok-id.ensures.read c.in_ok-id.ensures.next)
