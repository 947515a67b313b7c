use Rattle.std.proofs.Common.{◌≡◌, ◌++◌, take}
use Rattle.std.specs.Prelude.{flat_map}
use Rattle.kernel_rules.specs.Rows.{range_rows}
use Rattle.kernel_rules.proofs.context.add_ranges.Given as goal

abbrev pub invariant-loop-param : goal.invariant-loop-param
invariant-loop-param l = l.made.items ≡ l.initial.made.items ++ flat_map (range_rows l.vars) (take l.param-index l.params)
