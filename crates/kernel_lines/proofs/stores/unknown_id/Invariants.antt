use Rattle.std.proofs.Common.{◌≡◌, drop, bytes_eq}
use Rattle.std.specs.List.{list_any}
use Rattle.kernel_lines.specs.Stores.{first_unknown}
use Rattle.kernel_lines.proofs.stores.unknown_id.Given as goal

abbrev pub invariant-names : goal.invariant-names
invariant-names l = first_unknown (λ n. list_any (bytes_eq n) l.ids.ids) (drop l.name-index l.names) ≡ first_unknown (λ n. list_any (bytes_eq n) l.ids.ids) l.names
