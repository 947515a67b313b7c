use Rattle.first_right.proofs.Joined as joined
use Rattle.first_right.proofs.laws.code_is_right.Goals as goal

pub returns : goal.returns
returns c = joined.code_is_right
