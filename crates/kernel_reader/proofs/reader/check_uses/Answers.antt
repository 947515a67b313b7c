use Rattle.kernel_ir.specs.declared.kernel.Kernel.{Kernel}
use Rattle.kernel_reader.proofs.Sequels.{uses_fault, expansion_fault, kinds_answer}
use Rattle.kernel_reader.proofs.reader.check_uses.Goals as goal

pub returns-in-Err-clause-refused : goal.returns-in-Err-clause-refused
returns-in-Err-clause-refused c =
    uses_fault c.args.read.now c.as_slice-rules.result.now c.as_slice-insns.result.now c.as_slice-rules.ensures c.as_slice-insns.ensures Kernel Kernel c.in-Err.fault c.in-Err.ensures.refused

pub returns-in-Ok-expand-clause-refused : goal.returns-in-Ok-expand-clause-refused
returns-in-Ok-expand-clause-refused c =
    kinds_answer c.args.read.now c.as_slice-rules.result.now c.as_slice-insns.result.now c.as_slice-rules.ensures c.as_slice-insns.ensures c.check_kinds.result c.in-Ok.ensures.refused c.in-Ok-expand.ensures.refused c.check_kinds.ensures.refused

pub returns-clause-refused : goal.returns-clause-refused
returns-clause-refused c =
    expansion_fault c.args.read.now c.as_slice-rules.result.now c.as_slice-insns.result.now c.as_slice-rules.ensures c.as_slice-insns.ensures Kernel Kernel c.in-Err-expand.fault c.in-Ok.ensures.refused c.in-Err-expand.ensures.refused
