use Rattle.std.specs.Prelude.{true}
use Rattle.kernel_rules.proofs.KeptRows.{pair_is}
use Rattle.code_systems.proofs.asked.open_case.Goals as goal

pub excluded-requires : goal.excluded-requires
excluded-requires c = pair_is c.pair_over.result c.in_ok-system.system c.in_ok-pairs.pairs true c.pair_over.ensures c.in_ok-system.ensures
