use Rattle.std.proofs.Common.{◌≡◌, map, take}
use Rattle.kernel_edits.proofs.ids.ids_of.Given as goal

abbrev pub invariant-loop-insn : goal.invariant-loop-insn
invariant-loop-insn l = l.ids ≡ map (λ i. i.id) (take l.insn-index l.insns)
