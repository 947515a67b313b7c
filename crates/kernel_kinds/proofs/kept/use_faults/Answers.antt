use Rattle.kernel_kinds.proofs.AskedTables.{at_kinds}
use Rattle.kernel_kinds.proofs.kept.use_faults.Goals as goal

pub returns : goal.returns
returns c = at_kinds _ _ c.use_fault.ensures c.use_fault-2.ensures c.use_fault-3.ensures c.use_fault-4.ensures
