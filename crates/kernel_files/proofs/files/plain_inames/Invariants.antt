use Rattle.std.proofs.Common.{◌≡◌, ◌++◌, drop, map}
use Rattle.kernel_files.specs.Files.{plain}
use Rattle.kernel_files.proofs.files.plain_inames.Given as goal

abbrev pub invariant-vars : goal.invariant-vars
invariant-vars l = l.inames ++ map plain (drop l.var-index l.var-items) ≡ map plain l.var-items
