-- Expanded kernels.
use Rattle.std.specs.Prelude.{[], map}
use Rattle.kernel_ir.specs.declared.kernel.Kernel.{Kernel}
use Rattle.kernel_limits.specs.Asked.{expanded_insn}

-- the kernel with all uses of rules replaced, and without rules
abbrev pub expanded_kernel : Kernel → Kernel
expanded_kernel K = record K { rules = []; insns = map (expanded_insn K) K.insns }
