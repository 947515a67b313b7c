use Rattle.std.proofs.Common.{◌≡◌, ◌++◌, map, drop}
use Rattle.untyped_parts.specs.Rows.{row_of}
use Rattle.kernel_lines.proofs.rows.push_rows.Given as goal

abbrev pub invariant-right : goal.invariant-right
invariant-right l = l.rows ++ map (row_of l.relation l.a) (drop l.b-index l.right) ≡ l.fn.rows ++ map (row_of l.relation l.a) l.right
