use Rattle.std.proofs.Common.{◌≡◌, ◌≤◌, length, take}
use Rattle.quasi_forms.specs.Alike.{distinct}
use Rattle.kernel_ir.specs.Limits.{same_access}
use Rattle.kernel_limits.proofs.accesses.few_accesses.Given as goal

abbrev pub invariant-loop-access : goal.invariant-loop-access
invariant-loop-access l = record { made : l.known.items ≡ distinct same_access (take l.access-index l.accesses); few : length l.known.items ≤ 64 }
