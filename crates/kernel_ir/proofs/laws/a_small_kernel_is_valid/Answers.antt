use Rattle.kernel_ir.proofs.Doubling.{doubling_is_valid, not_without_iname}
use Rattle.kernel_ir.proofs.laws.a_small_kernel_is_valid.Goals as goal

pub returns-clause-valid : goal.returns-clause-valid
returns-clause-valid c = doubling_is_valid

pub returns-clause-iname : goal.returns-clause-iname
returns-clause-iname c = not_without_iname
