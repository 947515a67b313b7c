use Rattle.std.proofs.Common.{◌≡◌, ◌++◌, drop}
use Rattle.type_infer.specs.Tables.{calls_in_insns}
use Rattle.type_infer.proofs.used.insn_rules.Given as goal

abbrev pub invariant-loop-insn : goal.invariant-loop-insn
invariant-loop-insn l = l.rules.items ++ calls_in_insns (drop l.insn-index l.insns) ≡ calls_in_insns l.insns
