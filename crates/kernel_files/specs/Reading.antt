-- How bytes that are no kernel file are refused.
use Rattle.std.specs.Prelude.{◌≡◌, ℕ, pos, nat_le, if◌then◌else◌, List, [], ◌∷◌, length, Option, Some, None, codes}
use Rattle.std.specs.Option.{option_or}
use Rattle.kernel_ir.specs.declared.fault.Refusal.{Refusal}
use Rattle.kernel_ir.specs.declared.fault.Site.TheVariants.{Kernel}
use Rattle.kernel_ir.specs.Refusals.{refusal, passed_limit}
use Rattle.subst_rules.specs.Refused.{after}
use Rattle.kernel_grammar.specs.declared.file.KernelFile.{KernelFile}
use Rattle.kernel_grammar.specs.Files.{IsKernelFile}
use Rattle.kernel_grammar.specs.Faults.{IsFaultAt}
use Rattle.kernel_files.specs.FirstLine.{form_refusal}

-- a file has at most 1048576 bytes
abbrev pub bytes_refusal : List ℕ → Option Refusal
bytes_refusal bytes = if nat_le (length bytes) 1048576 then None else Some (passed_limit Kernel (codes "bytes") (pos 1048576))

-- what is asked before the syntax
abbrev pub front_refusal : List ℕ → Option Refusal
front_refusal bytes = option_or (bytes_refusal bytes) (form_refusal bytes)

-- the text is no kernel file after so many bytes of a line
abbrev pub syntax_refusal : ℕ → ℕ → Refusal
syntax_refusal line count = record (refusal Kernel 4 [] (pos count ∷ [])) { line = line }

-- The bytes are a kernel file, or are refused by rule 4 as none, after the bytes of a line that belong to the longest front with which some kernel file begins.
abbrev pub IsSyntaxRefusal : List ℕ → Option Refusal → Type 0
IsSyntaxRefusal bytes None = (file : KernelFile) × IsKernelFile bytes file
IsSyntaxRefusal bytes (Some r) = (line : ℕ) × (count : ℕ) × IsFaultAt bytes line count × (r ≡ syntax_refusal line count)

-- How bytes are refused that are no kernel file.
abbrev pub IsFileRefusal : List ℕ → Option Refusal → Type 0
IsFileRefusal bytes = after (front_refusal bytes) (IsSyntaxRefusal bytes)
