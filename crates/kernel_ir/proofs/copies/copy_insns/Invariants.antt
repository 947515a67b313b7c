use Rattle.std.proofs.Common.{◌≡◌, take}
use Rattle.kernel_ir.proofs.copies.copy_insns.Given as goal

abbrev pub invariant-loop-insn : goal.invariant-loop-insn
invariant-loop-insn l = l.copied ≡ take l.insn-index l.insns
