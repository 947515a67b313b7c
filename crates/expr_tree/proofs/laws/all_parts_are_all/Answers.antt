use Rattle.expr_tree.proofs.AllParts.{all_made, all_tests_made}
use Rattle.expr_tree.proofs.laws.all_parts_are_all.Goals as goal

pub returns-clause-trees : goal.returns-clause-trees
returns-clause-trees c = all_made

pub returns-clause-tests : goal.returns-clause-tests
returns-clause-tests c = all_tests_made
