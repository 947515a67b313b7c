use Rattle.std.proofs.Common.{◌≡◌, drop}
use Rattle.type_infer.specs.Tables.{known_by}
use Rattle.type_infer.specs.Typing.{insns_refusal}
use Rattle.type_infer.proofs.refuse.check_insns.Given as goal

abbrev pub invariant-loop-insn : goal.invariant-loop-insn
invariant-loop-insn l =
    insns_refusal l.kernel (known_by l.kernel l.rules) (drop l.insn-index l.kernel.insns) ≡ insns_refusal l.kernel (known_by l.kernel l.rules) l.kernel.insns
