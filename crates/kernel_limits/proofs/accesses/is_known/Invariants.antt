use Rattle.std.proofs.Common.{◌≡◌, false, take}
use Rattle.std.specs.List.{list_any}
use Rattle.kernel_ir.specs.Limits.{same_access}
use Rattle.kernel_limits.proofs.accesses.is_known.Given as goal

abbrev pub invariant-loop-other : goal.invariant-loop-other
invariant-loop-other l = list_any (λ x. same_access x l.access) (take l.other-index l.accesses) ≡ false
