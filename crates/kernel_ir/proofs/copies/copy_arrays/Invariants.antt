use Rattle.std.proofs.Common.{◌≡◌, take}
use Rattle.kernel_ir.proofs.copies.copy_arrays.Given as goal

abbrev pub invariant-loop-array : goal.invariant-loop-array
invariant-loop-array l = l.copied ≡ take l.array-index l.arrays
