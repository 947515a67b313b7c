use Rattle.kernel_syntax.proofs.Kernels.{kernel_read, no_text}
use Rattle.kernel_syntax.proofs.reader.read_syntax.Goals as goal

pub returns-in_ok-file-in-Ok-clause-read : goal.returns-in_ok-file-in-Ok-clause-read
returns-in_ok-file-in-Ok-clause-read c = kernel_read c.few_tokens.ensures _ _ _ c.requires c.in-Ok.ensures.tokens (rw c.deref.ensures.value at c.in_ok-file-in-Ok.ensures.read)

pub returns-in_ok-text_fault-in-Err-Syntax-clause-refused : goal.returns-in_ok-text_fault-in-Err-Syntax-clause-refused
returns-in_ok-text_fault-in-Err-Syntax-clause-refused c = c.in_ok-text_fault-in-Err-Syntax.ensures.place (λ tokens h. no_text _ _ _ _ c.in-Err-Syntax.field-0-is c.in-Err-Syntax.ensures.refused tokens h)
