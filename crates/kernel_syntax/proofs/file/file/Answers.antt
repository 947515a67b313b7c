use Rattle.kernel_syntax.proofs.Leads.{passes}
use Rattle.kernel_syntax.proofs.FileEnds.{file_start, file_skip, head_stop, entries_stop}
use Rattle.kernel_syntax.proofs.FileSteps.{skips_none, skips_on, file_whole}
use Rattle.kernel_syntax.proofs.file.file.Goals as goal

pub skipped-init : goal.skipped-init
skipped-init c = (skips_none _, file_start _)

pub skipped-preserved : goal.skipped-preserved
skipped-preserved c = (skips_on _ _ _ _ _ c.skipped.invariant.0 c.saturating_add-before.ensures c.in-Some.ensures.0 c.in-Some.ensures.1, file_skip _ _ _ c.skipped.invariant.1 c.in-Some.ensures.0 c.in-Some.ensures.1)

pub returns-clause-read : goal.returns-clause-read
returns-clause-read c = file_whole _ _ _ _ _ c.skipped.invariant.0 c.in_ok-at.ensures.read c.in_ok-entries.ensures.read

pub returns-in_err-at-clause-stops : goal.returns-in_err-at-clause-stops
returns-in_err-at-clause-stops c = passes _ _ _ c.from_residual.ensures.1 (head_stop _ _ _ c.skipped.invariant.1 c.in_default.ensures c.in_err-at.ensures.stops)

pub returns-in_err-entries-clause-stops : goal.returns-in_err-entries-clause-stops
returns-in_err-entries-clause-stops c = passes _ _ _ c.from_residual-in_err-entries.ensures.1 (entries_stop _ _ _ _ c.skipped.invariant.1 c.in_default.ensures c.in_ok-at.ensures.read c.in_ok-at.ensures.ends c.in_err-entries.ensures.stops)
