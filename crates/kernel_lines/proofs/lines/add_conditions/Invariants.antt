use Rattle.std.proofs.Common.{◌≡◌, ◌++◌}
use Rattle.kernel_lines.proofs.lines.add_conditions.Given as goal

abbrev pub invariant-rows : goal.invariant-rows
invariant-rows g l = l.rows ≡ l.fn.rows ++ l.yielded
