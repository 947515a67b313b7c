use Rattle.std.proofs.Common.{◌≡◌, ◌++◌, take}
use Rattle.std.specs.Prelude.{flat_map}
use Rattle.kernel_rules.specs.Rows.{array_rows}
use Rattle.kernel_rules.proofs.context.add_arrays.Given as goal

abbrev pub invariant-loop-array : goal.invariant-loop-array
invariant-loop-array l = l.made.items ≡ l.initial.made.items ++ flat_map (array_rows l.vars) (take l.array-index l.arrays)
