use Rattle.kernel_syntax.proofs.Leads.{ended, sign_on, part_on, no_sign, no_part, tok_in, spelled, passes}
use Rattle.kernel_syntax.proofs.FileEnds.{ended_closes, ended_opens, end_follows}
use Rattle.kernel_syntax.proofs.FileSteps.{ended_none, ended_some}
use Rattle.std.proofs.Common.{refl, []}
use Rattle.kernel_grammar.specs.Lexicals.{line_end}
use Rattle.kernel_syntax.specs.Parts.{Is}
use Rattle.kernel_syntax.proofs.file.ended_line.Goals as goal

pub returns-in-Some-clause-read : goal.returns-in-Some-clause-read
returns-in-Some-clause-read c = ended_none _ _ _ _ c.in-Some.ensures.0 c.in-Some.ensures.1

pub returns-clause-read : goal.returns-clause-read
returns-clause-read c = ended_some _ _ _ _ _ _ c.in_ok-item.ensures.read c.in_ok-end_of_line.ensures.read.0 c.in_ok-end_of_line.ensures.read.1

pub returns-in-Some-clause-ends : goal.returns-in-Some-clause-ends
returns-in-Some-clause-ends c = ended (sign_on (ended_closes _ _ c.in-Some.ensures.1) c.in-Some.ensures)

pub returns-in_err-item-clause-stops : goal.returns-in_err-item-clause-stops
returns-in_err-item-clause-stops c = passes _ _ _ c.from_residual.ensures.1 (no_part _ _ (ended_opens _ _ c.requires c.in_default.ensures) (tok_in line_end (Is []) [] refl) (end_follows _) c.in_err-item.ensures.stops)

pub returns-in_err-end_of_line-clause-stops : goal.returns-in_err-end_of_line-clause-stops
returns-in_err-end_of_line-clause-stops c = passes _ _ _ c.from_residual-in_err-end_of_line.ensures.1 (no_sign _ (part_on (ended_opens _ _ c.requires c.in_default.ensures) (spelled c.in_ok-item.ensures.read) c.in_ok-item.ensures.ends (end_follows _)) refl c.in_err-end_of_line.ensures.stops)

pub returns-clause-ends : goal.returns-clause-ends
returns-clause-ends c = ended (sign_on (part_on (ended_opens _ _ c.requires c.in_default.ensures) (spelled c.in_ok-item.ensures.read) c.in_ok-item.ensures.ends (end_follows _)) c.in_ok-end_of_line.ensures.read)
