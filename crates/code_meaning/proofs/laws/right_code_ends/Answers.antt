use Rattle.code_meaning.proofs.Ends.{right_ends, right_words, faulty_wrong}
use Rattle.code_meaning.proofs.laws.right_code_ends.Goals as goal

pub returns-clause-ends : goal.returns-clause-ends
returns-clause-ends c = right_ends

pub returns-clause-words : goal.returns-clause-words
returns-clause-words c = right_words

pub returns-clause-faults : goal.returns-clause-faults
returns-clause-faults c = faulty_wrong
