use Rattle.kernel_formed.proofs.Formed.{file_formed}
use Rattle.kernel_formed.proofs.WrittenFiles.{file_written}
use Rattle.kernel_formed.proofs.laws.file_is_formed.Goals as goal

pub returns : goal.returns
returns c = λ bytes file is none. file_formed file (file_written bytes file is) none
