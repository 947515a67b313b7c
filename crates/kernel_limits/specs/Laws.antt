-- Limits together.
use Rattle.std.specs.Prelude.{◌+◌, ◌≤◌, All}
use Rattle.expr_tree.specs.Depth.{depth_of}
use Rattle.kernel_ir.specs.declared.kernel.Kernel.{Kernel}
use Rattle.kernel_ir.specs.declared.kernel.Insn.{Insn}
use Rattle.kernel_ir.specs.Expanded.{expanded}
use Rattle.kernel_ir.specs.Limits.{value_of, test_of, value_depth, depth_of_option, nodes_of, nodes_of_test, IsWithinLimits}
use Rattle.kernel_limits.specs.Asked.{IsSized}

-- The limits of an instruction's expressions, uses of rules replaced.
pub record IsShallow (K : Kernel) (A : Insn) : Type 0 where
  pub value_depth : value_depth A.storing (depth_of (value_of K A)) ≤ 64
  pub test_depth : depth_of_option (test_of K A) ≤ 64
  pub nodes : nodes_of_test (test_of K A) + nodes_of (value_of K A) ≤ 4096

-- A kernel is within its limits, where it is sized and its expressions and the bodies of its rules are not too deep or large.
abbrev pub LimitsTogether : Type 0
LimitsTogether = (K : Kernel) → IsSized K → All (λ r. depth_of (expanded K r.body) ≤ 64) K.rules → All (IsShallow K) K.insns → IsWithinLimits K
