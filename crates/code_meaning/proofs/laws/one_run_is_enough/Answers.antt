use Rattle.code_meaning.proofs.Right.{right_alone}
use Rattle.code_meaning.proofs.laws.one_run_is_enough.Goals as goal

pub returns : goal.returns
returns c = right_alone
