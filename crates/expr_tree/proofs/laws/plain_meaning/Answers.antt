use Rattle.expr_tree.proofs.Plain.{plain_meaning, plain_meaning_of_test}
use Rattle.expr_tree.proofs.laws.plain_meaning.Goals as goal

pub returns-clause-trees : goal.returns-clause-trees
returns-clause-trees c = plain_meaning

pub returns-clause-tests : goal.returns-clause-tests
returns-clause-tests c = plain_meaning_of_test
