use Rattle.kernel_ir.proofs.Lookups.{found_there}
use Rattle.kernel_ir.proofs.kernel.Kernel.find.Goals as goal

pub returns-in-Some-clause-refused : goal.returns-in-Some-clause-refused
returns-in-Some-clause-refused c = found_there c.args.self.now.names c.in-Some.at c.args.name.now c.in-Some.ensures.there
