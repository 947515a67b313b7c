-- Why bytes are not read.
use Rattle.std.specs.Prelude.{ℕ, List}
use Rattle.kernel_grammar.specs.declared.file.KernelFile.{KernelFile}
use Rattle.kernel_grammar.specs.Files.{IsKernelFile}
use Rattle.kernel_grammar.specs.Faults.{IsFaultAt}
use Rattle.text_reader.specs.declared.fault.TextFault.{TextFault}
use Rattle.text_reader.specs.declared.fault.TextFault.TheVariants.{OutOfMemory, Syntax, Limit}

-- The fault is no number that is too large.
abbrev pub IsNoLimit : TextFault → Type 0
IsNoLimit OutOfMemory = Unit {0}
IsNoLimit (Syntax line count) = Unit {0}
IsNoLimit (Limit line) = ⊥

-- If the fault is one of the syntax, this holds.
abbrev pub IfSyntax : Type 0 → TextFault → Type 0
IfSyntax P OutOfMemory = Unit {0}
IfSyntax P (Syntax line count) = P
IfSyntax P (Limit line) = Unit {0}

-- The bytes are no kernel file.
abbrev pub IsNoFile : List ℕ → Type 0
IsNoFile bytes = (file : KernelFile) → IsKernelFile bytes file → ⊥

-- Want of memory says nothing of the bytes.
abbrev pub IsSyntaxFault : List ℕ → TextFault → Type 0
IsSyntaxFault bytes OutOfMemory = Unit {0}
IsSyntaxFault bytes (Syntax line count) = IsFaultAt bytes line count
IsSyntaxFault bytes (Limit line) = ⊥
