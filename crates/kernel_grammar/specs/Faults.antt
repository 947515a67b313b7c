-- The place at which bytes stop being a kernel file.
use Rattle.std.specs.Prelude.{◌≡◌, ℕ, List, [], ◌∷◌, ◌++◌}
use Rattle.text_reader.specs.Faults.{EndsIn}
use Rattle.kernel_grammar.specs.declared.file.KernelFile.{KernelFile}
use Rattle.kernel_grammar.specs.Files.{IsKernelFile}

-- Some kernel file begins with the bytes.
pub record BeginsFile (bytes : List ℕ) : Type 0 where
  pub more : List ℕ
  pub syntax : KernelFile
  pub is : IsKernelFile (bytes ++ more) syntax

-- The bytes are no kernel file. The longest front with which some kernel file begins ends in this line, after so many bytes of it.
pub record IsFaultAt (bytes : List ℕ) (line count : ℕ) : Type 0 where
  pub front : List ℕ
  pub rest : List ℕ
  pub text : bytes ≡ front ++ rest
  pub place : EndsIn line count front
  pub begins : BeginsFile front
  pub longest : (c : ℕ) (more : List ℕ) → rest ≡ c ∷ more → BeginsFile (front ++ c ∷ []) → ⊥
  pub none : (syntax : KernelFile) → IsKernelFile bytes syntax → ⊥
