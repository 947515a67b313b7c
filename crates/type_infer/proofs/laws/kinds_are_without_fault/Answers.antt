use Rattle.std.proofs.Common.{Some}
use Rattle.type_infer.proofs.KernelTyped.{kinds_agree, test_kinds_agree}
use Rattle.type_infer.proofs.laws.kinds_are_without_fault.Goals as goal

pub returns-clause-expressions : goal.returns-clause-expressions
returns-clause-expressions c K formed known e scope allowed k = (kinds_agree K formed known e scope allowed).has k

pub returns-clause-tests : goal.returns-clause-tests
returns-clause-tests c K formed known t scope allowed k = test_kinds_agree K formed known (Some t) scope allowed k
