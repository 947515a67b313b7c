use Rattle.expr_tree.proofs.Unreplaced.{trees_stay, tests_stay}
use Rattle.expr_tree.proofs.laws.unreplaced_stays.Goals as goal

pub returns-clause-trees : goal.returns-clause-trees
returns-clause-trees c = trees_stay

pub returns-clause-tests : goal.returns-clause-tests
returns-clause-tests c = tests_stay
