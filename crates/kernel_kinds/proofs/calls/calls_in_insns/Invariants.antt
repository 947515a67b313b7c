use Rattle.std.proofs.Common.{◌≡◌, ◌++◌, drop}
use Rattle.std.specs.Prelude.{flat_map}
use Rattle.kernel_kinds.specs.Calls.{calls_in_insn}
use Rattle.kernel_kinds.proofs.calls.calls_in_insns.Given as goal

abbrev pub invariant-loop-insn : goal.invariant-loop-insn
invariant-loop-insn l = l.found ++ flat_map calls_in_insn (drop l.insn-index l.insns) ≡ flat_map calls_in_insn l.insns
