use Rattle.kernel_grammar.proofs.WholeLines as whole
use Rattle.kernel_grammar.proofs.laws.lines_are_whole.Goals as goal

pub returns : goal.returns
returns c = whole.no_ends
