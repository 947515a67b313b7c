use Rattle.std.proofs.Common.{◌≡◌, drop}
use Rattle.kernel_files.specs.Insns.{first_taken}
use Rattle.kernel_files.proofs.inames.first_marked.Given as goal

abbrev pub invariant-bound : goal.invariant-bound
invariant-bound l = first_taken l.own l.before (drop l.iname-index l.bound) ≡ first_taken l.own l.fn.before l.bound
