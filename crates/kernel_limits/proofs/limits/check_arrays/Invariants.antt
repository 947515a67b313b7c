use Rattle.std.proofs.Common.{◌≡◌, drop}
use Rattle.kernel_limits.specs.Asked.{first_in, array_refusal}
use Rattle.kernel_limits.proofs.limits.check_arrays.Given as goal

abbrev pub invariant-loop-array : goal.invariant-loop-array
invariant-loop-array l = first_in array_refusal (drop l.array-index l.arrays) ≡ first_in array_refusal l.arrays
