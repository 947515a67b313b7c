use Rattle.kernel_syntax.proofs.Leads.{spelled, passes}
use Rattle.kernel_syntax.proofs.FileEnds.{lines_start, lines_go, lines_stop, lines_below}
use Rattle.kernel_syntax.proofs.FileSteps.{lines_none, lines_said, lines_silent}
use Rattle.kernel_syntax.proofs.file.entries.Goals as goal

pub lines-init : goal.lines-init
lines-init c = (lines_none _ _ _ _ _ c.requires c.ranges.before.fits c.new-entries.ensures, lines_start _ _ c.requires)

pub lines-preserved-in-Continue-branch-2 : goal.lines-preserved-in-Continue-branch-2
lines-preserved-in-Continue-branch-2 c = (
  lines_said _ _ _ _ _ _ _ _ _ _ _ _ c.saturating_add-number.ensures c.in-Some.is c.in_ok-push.ensures.ok c.lines.invariant.0 c.in_ok-item.ensures.read,
  lines_go _ _ _ _ c.lines.invariant.1 (lines_below _ _ c.lines-test.true) (spelled c.in_ok-item.ensures.read) c.in_ok-item.ensures.ends,
)

pub lines-preserved : goal.lines-preserved
lines-preserved c = (
  lines_silent _ _ _ _ _ _ _ _ _ _ c.saturating_add-number.ensures c.in_default.not-Some c.lines.invariant.0 c.in_ok-item.ensures.read,
  lines_go _ _ _ _ c.lines.invariant.1 (lines_below _ _ c.lines-test.true) (spelled c.in_ok-item.ensures.read) c.in_ok-item.ensures.ends,
)

pub returns-in_err-item-clause-stops : goal.returns-in_err-item-clause-stops
returns-in_err-item-clause-stops c = passes _ _ _ c.from_residual.ensures.1 (lines_stop _ _ _ _ c.lines.invariant.1 (lines_below _ _ c.lines-test.true) c.in_err-item.ensures.stops)
