use Rattle.expr_tree.proofs.ValueLaw.{keeps_the_value, keeps_the_test}
use Rattle.expr_tree.proofs.laws.rewriting_keeps_the_value.Goals as goal

pub returns-clause-trees : goal.returns-clause-trees
returns-clause-trees c = keeps_the_value

pub returns-clause-tests : goal.returns-clause-tests
returns-clause-tests c = keeps_the_test
