use Rattle.std.proofs.Common.{◌≡◌, ◌++◌, drop}
use Rattle.std.specs.Prelude.{flat_map}
use Rattle.kernel_names.specs.Roles.{parameter_in}
use Rattle.kernel_names.proofs.declarations.Declarations.parameters.Given as goal

abbrev pub invariant-roles : goal.invariant-roles
invariant-roles l = l.vars ++ flat_map parameter_in (drop l.role-index l.role-items) ≡ flat_map parameter_in l.role-items
