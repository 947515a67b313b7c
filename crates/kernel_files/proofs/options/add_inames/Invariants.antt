use Rattle.std.proofs.Common.{◌≡◌, ◌++◌, drop}
use Rattle.kernel_names.specs.Roles.{kernel_roles}
use Rattle.untyped.specs.Readings.{inames_in}
use Rattle.kernel_files.proofs.options.add_inames.Given as goal

abbrev pub invariant-names : goal.invariant-names
invariant-names l = l.inames ++ inames_in (kernel_roles l.declarations) (drop l.name-index l.names) ≡ l.fn.inames ++ inames_in (kernel_roles l.declarations) l.names
