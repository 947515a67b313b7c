use Rattle.std.proofs.Common.{◌≡◌, ◌++◌, take}
use Rattle.std.specs.Prelude.{flat_map}
use Rattle.kernel_limits.proofs.floors.add_shapes.Given as goal

abbrev pub invariant-loop-array : goal.invariant-loop-array
invariant-loop-array l = l.made ≡ l.initial.made ++ flat_map (λ a. a.shape) (take l.array-index l.arrays)
