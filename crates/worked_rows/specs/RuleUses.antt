-- Two uses of a rule.
use Rattle.std.specs.Prelude.{pos, [], ◌∷◌, codes}
use Rattle.expr_tree.specs.declared.tree.Cell.TheVariants.{Array}
use Rattle.expr_tree.specs.declared.tree.Op.TheVariants.{Add, Mul}
use Rattle.kernel_ir.specs.declared.kernel.Storing.TheVariants.{Plain}
use Rattle.kernel_ir.specs.declared.kernel.SubstRule.{SubstRule}
use Rattle.kernel_ir.specs.declared.kernel.Insn.{Insn}
use Rattle.kernel_ir.specs.declared.kernel.Kernel.{Kernel}
use Rattle.inst_model.specs.Arguments.{Arguments}
use Rattle.worked_rows.specs.Parts.{int32s, variable, further, below, plain, read, combination, call, input, output, instruction}
use Rattle.worked_rows.specs.Stores.{Stores}

-- `f(x) := a[x]*a[x]`; n, i and x are variables 0, 1 and 2
abbrev pub square_rule : SubstRule
square_rule = record { name = codes "f"; params = 2 ∷ []; body = combination Mul (read 0 (variable 2)) (read 0 (variable 2)) }

-- `out[i] = f(i) + f(i + 1)`
abbrev pub add_squares : Insn
add_squares = instruction (codes "insn_0") 6 (1 ∷ []) (Array 1) (variable 1 ∷ []) Plain (combination Add (call 0 (variable 1)) (call 0 (further 1 1))) []

-- with `domain [n] -> { [i] : 0 <= i < n }`, `input a: int32[n + 1]` and `output out: int32[n]`
abbrev pub rule_uses : Kernel
rule_uses = record {
  names = codes "n" ∷ codes "i" ∷ codes "x" ∷ codes "a" ∷ codes "out" ∷ codes "f" ∷ [];
  params = 0 ∷ [];
  inames = plain 1 ∷ [];
  priority = 1 ∷ [];
  rows = below 1 0;
  assumptions = [];
  arrays = input (codes "a") (further 0 1) ∷ output (codes "out") (variable 0) ∷ [];
  temps = [];
  rules = square_rule ∷ [];
  insns = add_squares ∷ [];
}

-- `n = 2`, `a = 1 2 3`, `out = 0 0`
abbrev pub one_to_three : Arguments
one_to_three = record { numbers = pos 2 ∷ []; lists = int32s (pos 1 ∷ pos 2 ∷ pos 3 ∷ []) ∷ int32s (pos 0 ∷ pos 0 ∷ []) ∷ [] }

-- The kernel stores `out = 5 13`.
abbrev pub UsesAreBodies : Type 0
UsesAreBodies = Stores rule_uses one_to_three (int32s (pos 5 ∷ pos 13 ∷ []) ∷ [])
