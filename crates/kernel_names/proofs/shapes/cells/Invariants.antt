use Rattle.std.proofs.Common.{◌≡◌, ◌*◌, ◌≤◌, map, min, drop, unwrap_or}
use Rattle.kernel_ir.specs.Limits.{product}
use Rattle.kernel_names.proofs.shapes.cells.Given as goal

abbrev pub invariant-entries : goal.invariant-entries
invariant-entries l = record {
  small : l.cells ≤ 4097;
  rest : min (l.cells * product (map (λ entry. unwrap_or entry 0) (drop l.entry-index l.shape))) 4097 ≡ min (product (map (λ entry. unwrap_or entry 0) l.shape)) 4097;
}
