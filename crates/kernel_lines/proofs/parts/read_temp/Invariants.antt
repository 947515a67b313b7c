use Rattle.std.proofs.Common.{◌≡◌, ◌++◌, ◌^◌, ◌-◌, map, min, drop, unwrap_or}
use Rattle.kernel_lines.proofs.parts.read_temp.Given as goal

abbrev pub invariant-entries : goal.invariant-entries
invariant-entries l = l.entries ++ map (λ entry. min (unwrap_or entry 0) (2 ^ 32 - 1)) (drop l.entry-index l.shape) ≡ map (λ entry. min (unwrap_or entry 0) (2 ^ 32 - 1)) l.shape
