-- How the bytes of a kernel file are read, and how they are refused.
use Rattle.std.specs.Prelude.{◌≡◌, ℕ, List, ◌⊎◌, Option, Some, None}
use Rattle.kernel_files.specs.declared.files.ReadKernel.{ReadKernel}
use Rattle.kernel_files.specs.Files.{kernel_of, read_of, lines_refusal}
use Rattle.kernel_files.specs.Reading.{front_refusal, IsSyntaxRefusal}
use Rattle.kernel_grammar.specs.declared.file.KernelFile.{KernelFile}
use Rattle.kernel_grammar.specs.Files.{IsKernelFile}
use Rattle.kernel_ir.specs.declared.fault.Refusal.{Refusal}
use Rattle.kernel_ir.specs.declared.kernel.Kernel.{Kernel}
use Rattle.kernel_kinds.specs.Kinds.{kinds_refusal}
use Rattle.kernel_kinds.specs.Refused.{IsCallsRefusal}
use Rattle.subst_rules.specs.Refused.{after, IsExpansionRefusal}
use Rattle.type_infer.specs.Inferred.{inferred}

-- The kernel of the file of which the bytes are a text, with the kinds of its temporaries.
abbrev pub Says : List ℕ → Kernel → Type 0
Says bytes K = (file : KernelFile) × IsKernelFile bytes file × (K ≡ inferred (kernel_of file))

-- some bytes are a text of the file
abbrev pub IsSomeFile : KernelFile → Type 0
IsSomeFile file = (bytes : List ℕ) × IsKernelFile bytes file

-- the first of two kinds of refusal, of which each may be none
abbrev pub IsThen : (Option Refusal → Type 0) → (Option Refusal → Type 0) → Option Refusal → Type 0
IsThen first later None = first None × later None
IsThen first later (Some r) = first (Some r) ⊎ (first None × later (Some r))

-- rules 8 and 7, the limits with uses of rules replaced, and the kinds in the trees
abbrev pub IsUsesRefusal : ReadKernel → Option Refusal → Type 0
IsUsesRefusal k = IsThen (IsCallsRefusal k.kernel k.rules k.insns) (IsThen (IsExpansionRefusal k.kernel) (λ r. r ≡ kinds_refusal k.kernel k.rules k.insns))

-- of a file's lines, and then of what they say together
abbrev pub IsContentRefusal : KernelFile → Option Refusal → Type 0
IsContentRefusal file = after (lines_refusal file) (IsUsesRefusal (read_of file))

-- a text that is no kernel file, or a file that is refused
abbrev pub IsTextRefusal : List ℕ → Option Refusal → Type 0
IsTextRefusal bytes None = (file : KernelFile) × IsKernelFile bytes file × IsContentRefusal file None
IsTextRefusal bytes (Some r) = IsSyntaxRefusal bytes (Some r) ⊎ ((file : KernelFile) × IsKernelFile bytes file × IsContentRefusal file (Some r))

-- Of what the bytes are refused, if of anything: rules 3 and 5 of the file as a whole first.
abbrev pub IsReadingRefusal : List ℕ → Option Refusal → Type 0
IsReadingRefusal bytes = after (front_refusal bytes) (IsTextRefusal bytes)
