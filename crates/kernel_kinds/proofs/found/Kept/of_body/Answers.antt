use Rattle.kernel_kinds.proofs.AskedTables.{kept_is}
use Rattle.kernel_kinds.proofs.found.Kept.of_body.Goals as goal

pub returns : goal.returns
returns c = kept_is _ _ c.first_of.ensures c.value_faults.ensures c.use_faults.ensures
