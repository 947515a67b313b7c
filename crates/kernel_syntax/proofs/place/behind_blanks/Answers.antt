use Rattle.std.proofs.Common.{sym, ◌∙◌}
use Rattle.kernel_syntax.proofs.LineCounts.{blank_more}
use Rattle.kernel_syntax.proofs.place.behind_blanks.Goals as goal

pub blanks-preserved : goal.blanks-preserved
blanks-preserved c = λ h. blank_more _ _ _ c.blanks-test.true (sym c.is_space.ensures ∙ c.if-not-is_space.false) (c.blanks.invariant h)
