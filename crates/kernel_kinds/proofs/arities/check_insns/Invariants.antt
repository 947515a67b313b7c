use Rattle.std.proofs.Common.{◌≡◌, drop}
use Rattle.kernel_limits.specs.Asked.{first_in}
use Rattle.kernel_kinds.specs.Refused.{insn_refusal}
use Rattle.kernel_kinds.proofs.arities.check_insns.Given as goal

abbrev pub invariant-loop-insn : goal.invariant-loop-insn
invariant-loop-insn l = first_in (insn_refusal l.kernel) (drop l.insn-index l.insns) ≡ first_in (insn_refusal l.kernel) l.insns
