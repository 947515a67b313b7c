-- What is proved of the kernels of files.
use Rattle.std.specs.Prelude.{◌≡◌, ℕ, List, None}
use Rattle.kernel_grammar.specs.declared.file.KernelFile.{KernelFile}
use Rattle.kernel_grammar.specs.Files.{IsKernelFile}
use Rattle.kernel_ir.specs.Valid.{IsFormed}
use Rattle.kernel_files.specs.Files.{kernel_of, rule_trees, insn_trees, lines_refusal}
use Rattle.kernel_kinds.specs.Laws.{IsMadeOf}

-- The kernel of a kernel file in which no line is refused has its names, numbers and scopes as a valid kernel has them.
abbrev pub FileIsFormed : Type 0
FileIsFormed = (bytes : List ℕ) (file : KernelFile) → IsKernelFile bytes file → lines_refusal file ≡ None → IsFormed (kernel_of file)

-- That kernel is made of the trees of the file's rules and instructions, and each of its temporaries has a kind or is stored to.
abbrev pub FileIsMade : Type 0
FileIsMade = (file : KernelFile) → lines_refusal file ≡ None → IsMadeOf (kernel_of file) (rule_trees file) (insn_trees file)
