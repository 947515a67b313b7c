use Rattle.kernel_reader.proofs.Sequels.{behind_text}
use Rattle.kernel_reader.proofs.reader.read_kernel.Goals as goal

pub returns-in-Ok-clause-refused : goal.returns-in-Ok-clause-refused
returns-in-Ok-clause-refused c = behind_text c.args.bytes.now c.in-Ok.file c.kernel_of_file.result c.in-Ok.ensures.refused c.in-Ok.ensures.read c.kernel_of_file.ensures.refused
