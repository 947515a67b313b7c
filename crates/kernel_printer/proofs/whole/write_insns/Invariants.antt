-- What is written, followed by what is left, is the whole.
use Rattle.std.proofs.Common.{◌≡◌, ◌++◌, drop, flat_map}
use Rattle.kernel_printer.specs.KernelText.{insn_line}
use Rattle.kernel_printer.specs.Spelled.{spelling_of}
use Rattle.kernel_printer.proofs.whole.write_insns.Given as goal

abbrev pub invariant-loop-insn : goal.invariant-loop-insn
invariant-loop-insn l = l.out.items ++ flat_map (insn_line l.spelling.kernel.now (spelling_of l.spelling)) (drop l.insn-index l.insns) ≡ l.fn.out.items ++ flat_map (insn_line l.spelling.kernel.now (spelling_of l.spelling)) l.insns
