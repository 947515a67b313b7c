-- Two writers of one cell, one of which depends on the other.
use Rattle.std.specs.Prelude.{pos, [], ◌∷◌, codes}
use Rattle.expr_tree.specs.declared.tree.Cell.TheVariants.{Array}
use Rattle.kernel_ir.specs.declared.kernel.Storing.TheVariants.{Plain}
use Rattle.kernel_ir.specs.declared.kernel.Insn.{Insn}
use Rattle.kernel_ir.specs.declared.kernel.Kernel.{Kernel}
use Rattle.inst_model.specs.Arguments.{Arguments}
use Rattle.worked_rows.specs.Parts.{int32s, number, leaf, output, instruction}
use Rattle.worked_rows.specs.Stores.{Stores}

-- `out[0] = 1 {id=s}`
abbrev pub one : Insn
one = instruction (codes "s") 3 [] (Array 0) (number 0 ∷ []) Plain (leaf (number 1)) []

-- `out[0] = 2 {id=t, dep=s}`
abbrev pub two : Insn
two = instruction (codes "t") 4 [] (Array 0) (number 0 ∷ []) Plain (leaf (number 2)) (codes "s" ∷ [])

-- with `output out: int32[1]`
abbrev pub two_writers : Kernel
two_writers = record {
  names = codes "out" ∷ [];
  params = [];
  inames = [];
  priority = [];
  rows = [];
  assumptions = [];
  arrays = output (codes "out") (number 1) ∷ [];
  temps = [];
  rules = [];
  insns = one ∷ two ∷ [];
}

-- `out = 0`
abbrev pub zero_out : Arguments
zero_out = record { numbers = []; lists = int32s (pos 0 ∷ []) ∷ [] }

-- The kernel stores `out = 2`.
abbrev pub SecondWriterIsLast : Type 0
SecondWriterIsLast = Stores two_writers zero_out (int32s (pos 2 ∷ []) ∷ [])
