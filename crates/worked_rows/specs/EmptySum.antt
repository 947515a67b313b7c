-- Sums over the numbers below each number, the first of which is empty.
use Rattle.std.specs.Prelude.{ℕ, pos, [], ◌∷◌, ◌++◌, codes}
use Rattle.expr_tree.specs.declared.tree.Cell.TheVariants.{Array}
use Rattle.expr_tree.specs.declared.tree.Op.{Op}
use Rattle.expr_tree.specs.declared.tree.Op.TheVariants.{Add}
use Rattle.expr_tree.specs.declared.tree.Node.TheVariants as node
use Rattle.expr_tree.specs.declared.tree.Expr.{Expr}
use Rattle.expr_tree.specs.Rewritten.{tree_of}
use Rattle.kernel_ir.specs.declared.kernel.Storing.TheVariants.{Plain}
use Rattle.kernel_ir.specs.declared.kernel.Insn.{Insn}
use Rattle.kernel_ir.specs.declared.kernel.Kernel.{Kernel}
use Rattle.inst_model.specs.Arguments.{Arguments}
use Rattle.worked_rows.specs.Parts.{int32s, variable, below, plain, read, input, output, instruction}
use Rattle.worked_rows.specs.Stores.{Stores}

-- a reduction over one iname
abbrev pub reduction : Op → ℕ → Expr → Expr
reduction op v e = tree_of (node.Fold op (v ∷ []) e)

-- `out[i] = sum(k, a[k])`; n, i and k are variables 0, 1 and 2
abbrev pub sum_below : Insn
sum_below = instruction (codes "insn_0") 6 (1 ∷ []) (Array 1) (variable 1 ∷ []) Plain (reduction Add 2 (read 0 (variable 2))) []

-- with the domains `[n] -> { [i] : 0 <= i < n }` and `[i] -> { [k] : 0 <= k < i }`, `input a: int32[n]` and `output out: int32[n]`
abbrev pub empty_sum : Kernel
empty_sum = record {
  names = codes "n" ∷ codes "i" ∷ codes "k" ∷ codes "a" ∷ codes "out" ∷ [];
  params = 0 ∷ [];
  inames = plain 1 ∷ plain 2 ∷ [];
  priority = 1 ∷ 2 ∷ [];
  rows = below 1 0 ++ below 2 1;
  assumptions = [];
  arrays = input (codes "a") (variable 0) ∷ output (codes "out") (variable 0) ∷ [];
  temps = [];
  rules = [];
  insns = sum_below ∷ [];
}

-- `n = 3`, `a = 5 6 7`, `out = 9 9 9`
abbrev pub three_entries : Arguments
three_entries = record { numbers = pos 3 ∷ []; lists = int32s (pos 5 ∷ pos 6 ∷ pos 7 ∷ []) ∷ int32s (pos 9 ∷ pos 9 ∷ pos 9 ∷ []) ∷ [] }

-- The kernel stores `out = 0 5 11`.
abbrev pub FirstSumIsEmpty : Type 0
FirstSumIsEmpty = Stores empty_sum three_entries (int32s (pos 0 ∷ pos 5 ∷ pos 11 ∷ []) ∷ [])
