use Rattle.std.proofs.Common.{◌≡◌, drop}
use Rattle.kernel_names.specs.Roles.{kernel_roles}
use Rattle.kernel_lines.specs.Stores.{first_unknown, is_iname}
use Rattle.kernel_lines.proofs.stores.no_iname.Given as goal

abbrev pub invariant-names : goal.invariant-names
invariant-names l = first_unknown (λ n. is_iname (kernel_roles l.declarations n)) (drop l.name-index l.names) ≡ first_unknown (λ n. is_iname (kernel_roles l.declarations n)) l.names
