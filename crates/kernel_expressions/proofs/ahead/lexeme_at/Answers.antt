use Rattle.kernel_expressions.proofs.Stands.{stands_if}
use Rattle.kernel_expressions.proofs.ahead.lexeme_at.Goals as goal

pub returns : goal.returns
returns c = stands_if _ _ _ c.copied_at.ensures
