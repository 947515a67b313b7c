-- Which limit a kernel passes first, of those that are asked once its uses of rules are replaced.
use Rattle.std.specs.Prelude.{◌≡◌, ℕ, ◌+◌, ◌*◌, ◌^◌, ◌≤◌, pos, Bool, true, false, ◌||◌, nat_le, List, [], ◌∷◌, length, Option, Some, None, All, codes, map}
use Rattle.std.specs.List.{list_all}
use Rattle.affine_rows.specs.declared.quasi.Quasi.{Quasi}
use Rattle.affine_rows.specs.Forms.{IsForm}
use Rattle.quasi_forms.specs.Fits.{fits_form}
use Rattle.kernel_ir.specs.declared.fault.Site.TheVariants.{Kernel as kernel_site}
use Rattle.kernel_ir.specs.declared.fault.Refusal.{Refusal}
use Rattle.kernel_ir.specs.declared.kernel.Array as array
use Rattle.kernel_ir.specs.declared.kernel.Temp as temp
use Rattle.kernel_ir.specs.declared.kernel.Insn.{Insn}
use Rattle.kernel_ir.specs.declared.kernel.Kernel.{Kernel}
use Rattle.kernel_ir.specs.Expanded.{expanded, expanded_test}
use Rattle.kernel_ir.specs.Limits.{accesses_of, all_inames, fold_count, floors_of_insn, forms_of, insn_count, product, IsSmallTemp, size_part, size_forms}
use Rattle.kernel_ir.specs.Refusals.{passed_limit}

-- the kernel's instructions with their uses of rules replaced
abbrev pub expanded_insn : Kernel → Insn → Insn
expanded_insn K A = record A { value = expanded K A.value; test = expanded_test K A.test }

abbrev pub AreExpanded : Kernel → List Insn → Type 0
AreExpanded K insns = insns ≡ map (expanded_insn K) K.insns

-- ---- refusals

-- the first of two refusals
abbrev pub first_of : Option Refusal → Option Refusal → Option Refusal
first_of None later = later
first_of (Some first) later = Some first

-- the first refusal of elements
abbrev pub first_in : {X : Type 0} → (X → Option Refusal) → List X → Option Refusal
first_in asks [] = None
first_in asks (x ∷ xs) = first_of (asks x) (first_in asks xs)

-- the limit is named where something is not within it
abbrev pub asked : Bool → ℕ → List ℕ → ℕ → Option Refusal
asked true line what limit = None
asked false line what limit = Some (record (passed_limit kernel_site what (pos limit)) { line = line })

-- there are at most so many
abbrev pub counted : ℕ → ℕ → List ℕ → ℕ → Option Refusal
counted count line what limit = asked (nat_le count limit) line what limit

-- ---- arrays and temporaries

-- each form on the way to the size is within its limits
abbrev pub fits_size : List Quasi → Bool
fits_size shape = list_all fits_form (size_forms (size_part shape))

abbrev pub array_refusal : array.Array → Option Refusal
array_refusal a = first_of (counted (length a.shape) 0 (codes "places") 8) (asked (fits_size a.shape) 0 (codes "form") (2 ^ 62))

-- local temporaries may have any count of cells
abbrev pub few_cells : temp.Temp → Bool
few_cells t = t.local || nat_le (product t.shape) 4096

abbrev pub temp_refusal : temp.Temp → Option Refusal
temp_refusal t = first_of (counted (length t.shape) 0 (codes "places") 8) (asked (few_cells t) 0 (codes "cells") 4096)

-- ---- instructions

-- the instruction counts one, and each of its reductions two
abbrev pub weight : Insn → ℕ
weight A = 1 + 2 * fold_count A

-- of an instruction, behind others that count so much
abbrev pub counts_refusal : ℕ → Insn → Option Refusal
counts_refusal before A = first_of (counted (length (all_inames A)) A.line (codes "inames") 16) (counted (before + weight A) A.line (codes "instructions") 64)

abbrev pub uses_refusal : Kernel → Insn → Option Refusal
uses_refusal K A = first_of (counted (length (accesses_of K A)) A.line (codes "accesses") 64) (counted (length (floors_of_insn K A)) A.line (codes "floors") 32)

abbrev pub insn_refusal : Kernel → ℕ → Insn → Option Refusal
insn_refusal K before A = first_of (counts_refusal before A) (uses_refusal K A)

abbrev pub insns_refusal : Kernel → ℕ → List Insn → Option Refusal
insns_refusal K before [] = None
insns_refusal K before (A ∷ As) = first_of (insn_refusal K before A) (insns_refusal K (before + weight A) As)

-- Parameters and names, then the arrays and the temporaries as they are declared, then the instructions in their order.
abbrev pub limit_refusal : Kernel → Option Refusal
limit_refusal K =
    first_of (counted (length K.params) 0 (codes "parameters") 16)
    (first_of (counted (length K.names) 0 (codes "names") 65536)
    (first_of (first_in array_refusal K.arrays) (first_of (first_in temp_refusal K.temps) (insns_refusal K 0 K.insns))))

-- ---- what holds where none is passed

pub record IsSizedInsn (K : Kernel) (A : Insn) : Type 0 where
  pub forms : All IsForm (forms_of K A)
  pub inames : length (all_inames A) ≤ 16
  pub accesses : length (accesses_of K A) ≤ 64
  pub floors : length (floors_of_insn K A) ≤ 32

-- All limits of a kernel but those of the expressions of its instructions and of its rules.
pub record IsSized (K : Kernel) : Type 0 where
  pub names : length K.names ≤ 65536
  pub params : length K.params ≤ 16
  pub count : insn_count K ≤ 64
  pub places : All (λ a. length a.shape ≤ 8) K.arrays
  pub temp_places : All (λ t. length t.shape ≤ 8) K.temps
  pub cells : All IsSmallTemp K.temps
  pub sizes : All (λ a. All IsForm (size_forms (size_part a.shape))) K.arrays
  pub insns : All (IsSizedInsn K) K.insns
