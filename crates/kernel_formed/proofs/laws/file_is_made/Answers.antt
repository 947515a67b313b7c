use Rattle.kernel_formed.proofs.MadeOfTrees.{file_made}
use Rattle.kernel_formed.proofs.laws.file_is_made.Goals as goal

pub returns : goal.returns
returns c = λ file none. file_made file none
