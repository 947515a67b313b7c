use Rattle.kernel_grammar.proofs.LoneWords as words
use Rattle.kernel_grammar.proofs.laws.lone_words.Goals as goal

pub returns-clause-bare : goal.returns-clause-bare
returns-clause-bare c = words.lone

pub returns-clause-signs : goal.returns-clause-signs
returns-clause-signs c = words.in_signs
