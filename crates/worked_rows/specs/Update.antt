-- An update of one cell by two instances, without an order between them.
use Rattle.std.specs.Prelude.{pos, [], ◌∷◌, codes}
use Rattle.expr_tree.specs.declared.tree.Cell.TheVariants.{Array}
use Rattle.expr_tree.specs.declared.tree.Op.TheVariants.{Add}
use Rattle.kernel_ir.specs.declared.kernel.Storing.TheVariants.{Update}
use Rattle.kernel_ir.specs.declared.kernel.Insn.{Insn}
use Rattle.kernel_ir.specs.declared.kernel.Kernel.{Kernel}
use Rattle.inst_model.specs.Arguments.{Arguments}
use Rattle.worked_rows.specs.Parts.{int32s, number, variable, below, plain, read, input, output, instruction}
use Rattle.worked_rows.specs.Stores.{Stores}

-- `out[0] += a[i]`; n is variable 0 and i is variable 1
abbrev pub add_entry : Insn
add_entry = instruction (codes "insn_0") 5 (1 ∷ []) (Array 0) (number 0 ∷ []) (Update Add) (read 1 (variable 1)) []

-- with `domain [n] -> { [i] : 0 <= i < n }`, `output out: int32[1]` and `input a: int32[n]`
abbrev pub update : Kernel
update = record {
  names = codes "n" ∷ codes "i" ∷ codes "out" ∷ codes "a" ∷ [];
  params = 0 ∷ [];
  inames = plain 1 ∷ [];
  priority = 1 ∷ [];
  rows = below 1 0;
  assumptions = [];
  arrays = output (codes "out") (number 1) ∷ input (codes "a") (variable 0) ∷ [];
  temps = [];
  rules = [];
  insns = add_entry ∷ [];
}

-- `n = 2`, `out = 1`, `a = 5 6`
abbrev pub two_entries : Arguments
two_entries = record { numbers = pos 2 ∷ []; lists = int32s (pos 1 ∷ []) ∷ int32s (pos 5 ∷ pos 6 ∷ []) ∷ [] }

-- The kernel stores `out = 12`.
abbrev pub UpdatesAddUp : Type 0
UpdatesAddUp = Stores update two_entries (int32s (pos 12 ∷ []) ∷ [])
