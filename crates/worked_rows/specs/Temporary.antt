-- A temporary that one instruction stores and another reads.
use Rattle.std.specs.Prelude.{pos, negsuc, false, [], ◌∷◌, Some, codes}
use Rattle.wrap_words.specs.declared.kind.Kind.TheVariants.{I32}
use Rattle.expr_tree.specs.declared.tree.Cell.TheVariants.{Array, Temp}
use Rattle.expr_tree.specs.declared.tree.Op.TheVariants.{Add, Mul}
use Rattle.kernel_ir.specs.declared.kernel.Storing.TheVariants.{Plain}
use Rattle.kernel_ir.specs.declared.kernel.Insn.{Insn}
use Rattle.kernel_ir.specs.declared.kernel.Kernel.{Kernel}
use Rattle.inst_model.specs.Arguments.{Arguments}
use Rattle.worked_rows.specs.Parts.{int32s, number, variable, below, plain, leaf, read, read_temp, combination, input, output, instruction}
use Rattle.worked_rows.specs.Stores.{Stores}

-- `<> t = a[i]*a[i] {id=w}`; n and i are variables 0 and 1
abbrev pub square_entry : Insn
square_entry = instruction (codes "w") 5 (1 ∷ []) (Temp 0) [] Plain (combination Mul (read 0 (variable 1)) (read 0 (variable 1))) []

-- `out[i] = t + 1 {id=s, dep=w}`
abbrev pub add_one : Insn
add_one = instruction (codes "s") 6 (1 ∷ []) (Array 1) (variable 1 ∷ []) Plain (combination Add (read_temp 0) (leaf (number 1))) (codes "w" ∷ [])

-- with `domain [n] -> { [i] : 0 <= i < n }`, `input a: int32[n]` and `output out: int32[n]`
abbrev pub temporary : Kernel
temporary = record {
  names = codes "n" ∷ codes "i" ∷ codes "a" ∷ codes "out" ∷ codes "t" ∷ [];
  params = 0 ∷ [];
  inames = plain 1 ∷ [];
  priority = 1 ∷ [];
  rows = below 1 0;
  assumptions = [];
  arrays = input (codes "a") (variable 0) ∷ output (codes "out") (variable 0) ∷ [];
  temps = record { name = codes "t"; kind = Some I32; shape = []; local = false } ∷ [];
  rules = [];
  insns = square_entry ∷ add_one ∷ [];
}

-- `n = 2`, `a = 3 -2`, `out = 0 0`
abbrev pub plus_and_minus : Arguments
plus_and_minus = record { numbers = pos 2 ∷ []; lists = int32s (pos 3 ∷ negsuc 1 ∷ []) ∷ int32s (pos 0 ∷ pos 0 ∷ []) ∷ [] }

-- The kernel stores `out = 10 5`.
abbrev pub ReadsAreOfStores : Type 0
ReadsAreOfStores = Stores temporary plus_and_minus (int32s (pos 10 ∷ pos 5 ∷ []) ∷ [])
