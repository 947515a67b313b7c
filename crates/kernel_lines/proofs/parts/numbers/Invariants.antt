use Rattle.std.proofs.Common.{◌≡◌, ◌++◌, map, drop}
use Rattle.kernel_names.specs.Roles.{number_of}
use Rattle.kernel_lines.proofs.parts.numbers.Given as goal

abbrev pub invariant-names : goal.invariant-names
invariant-names l = l.made ++ map (number_of l.declarations) (drop l.name-index l.names) ≡ map (number_of l.declarations) l.names
