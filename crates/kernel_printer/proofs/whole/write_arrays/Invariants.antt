-- What is written, followed by what is left, is the whole.
use Rattle.std.proofs.Common.{◌≡◌, ◌++◌, drop, flat_map}
use Rattle.kernel_printer.specs.KernelText.{array_line}
use Rattle.kernel_printer.specs.Spelled.{spelling_of}
use Rattle.kernel_printer.proofs.whole.write_arrays.Given as goal

abbrev pub invariant-loop-array : goal.invariant-loop-array
invariant-loop-array l = l.out.items ++ flat_map (array_line (spelling_of l.spelling)) (drop l.array-index l.arrays) ≡ l.fn.out.items ++ flat_map (array_line (spelling_of l.spelling)) l.arrays
