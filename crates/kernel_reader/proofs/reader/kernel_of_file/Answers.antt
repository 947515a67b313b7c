use Rattle.kernel_ir.specs.declared.kernel.Kernel.{Kernel}
use Rattle.kernel_reader.proofs.Sequels.{uses_behind_lines, kinds_behind_lines, typable, said}
use Rattle.kernel_reader.proofs.reader.kernel_of_file.Goals as goal

pub infer-requires : goal.infer-requires
infer-requires c =
    typable c.args.file.now c.in-Ok.read c.file_is_formed-formed.ensures c.requires c.in-Ok.ensures.refused c.in-Ok.ensures.kernel c.in-Ok-check_uses.ensures.ready

pub returns-in-Ok-check_uses-clause-kernel : goal.returns-in-Ok-check_uses-clause-kernel
returns-in-Ok-check_uses-clause-kernel c = said c.args.file.now c.in-Ok.read c.infer.result c.in-Ok.ensures.kernel c.infer.ensures.kinds

pub returns-in-Ok-check_uses-clause-refused : goal.returns-in-Ok-check_uses-clause-refused
returns-in-Ok-check_uses-clause-refused c =
    kinds_behind_lines c.args.file.now c.in-Ok.read c.infer.result c.file_is_formed-formed.ensures c.file_is_made-made.ensures c.typed_by_trees-typed.ensures c.requires c.in-Ok.ensures.refused c.in-Ok.ensures.kernel c.in-Ok-check_uses.ensures.refused c.infer.ensures.refused

pub returns-in-Err-check_uses-clause-refused : goal.returns-in-Err-check_uses-clause-refused
returns-in-Err-check_uses-clause-refused c =
    uses_behind_lines Kernel Kernel c.args.file.now c.in-Ok.read c.in-Err-check_uses.fault c.in-Ok.ensures.refused c.in-Ok.ensures.kernel c.in-Err-check_uses.ensures.refused
