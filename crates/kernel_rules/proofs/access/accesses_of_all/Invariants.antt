use Rattle.std.proofs.Common.{◌≡◌, map, take}
use Rattle.kernel_rules.specs.Accesses.{plain_accesses}
use Rattle.kernel_rules.proofs.access.accesses_of_all.Given as goal

abbrev pub invariant-loop-insn : goal.invariant-loop-insn
invariant-loop-insn l = l.made.items ≡ map plain_accesses (take l.insn-index l.insns)
