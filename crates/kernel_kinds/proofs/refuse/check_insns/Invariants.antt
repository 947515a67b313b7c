use Rattle.std.proofs.Common.{◌≡◌, drop}
use Rattle.kernel_limits.specs.Asked.{first_in}
use Rattle.kernel_kinds.specs.Kinds.{insn_refusal}
use Rattle.kernel_kinds.specs.Tables.{known_by}
use Rattle.kernel_kinds.proofs.refuse.check_insns.Given as goal

abbrev pub invariant-loop-insn : goal.invariant-loop-insn
invariant-loop-insn l = first_in (insn_refusal l.kernel (known_by l.cells l.table)) (drop l.insn-index l.insns) ≡ first_in
    (insn_refusal l.kernel (known_by l.cells l.table)) l.insns
