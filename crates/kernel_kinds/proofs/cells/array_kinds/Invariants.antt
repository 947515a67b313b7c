use Rattle.std.proofs.Common.{◌≡◌, ◌++◌, map, drop}
use Rattle.kernel_kinds.proofs.cells.array_kinds.Given as goal

abbrev pub invariant-loop-array : goal.invariant-loop-array
invariant-loop-array l = l.kinds ++ map (λ a. a.kind) (drop l.array-index l.arrays) ≡ map (λ a. a.kind) l.arrays
