-- What expansion keeps.
use Rattle.std.specs.Prelude.{◌≡◌, ℕ, ℤ, true, List, [], Option, Some, None, All}
use Rattle.expr_tree.specs.declared.tree.Test.{Test}
use Rattle.expr_tree.specs.Value.{Store}
use Rattle.expr_tree.specs.Scenes.{Scene, is_among}
use Rattle.expr_tree.specs.Meaning.{World, meaning_of, meaning_of_test}
use Rattle.kernel_ir.specs.declared.kernel.Kernel.{Kernel}
use Rattle.kernel_ir.specs.declared.kernel.Insn.{Insn}
use Rattle.kernel_ir.specs.Limits.{value_of, test_of}
use Rattle.kernel_ir.specs.Valid.{IsFormed, HasArities, IsValid, all_calls}
use Rattle.inst_model.specs.Arguments.{Arguments, params_at}
use Rattle.inst_model.specs.Instances.{scene_of}
use Rattle.inst_model.specs.Running.{world_of}
use Rattle.subst_rules.specs.Kernels.{expanded_kernel}
use Rattle.subst_rules.specs.Ready.{IsExpandable}

-- the numbers of the kernel's parameters are those of the arguments
abbrev pub HasParams : Kernel → Arguments → Scene → Type 0
HasParams K a at = (v : ℕ) → is_among K.params v ≡ true → at.env v ≡ params_at K a v

-- each scene of an instance of the instruction is such a scene
abbrev pub HasInstances : Kernel → Arguments → Insn → Type 0
HasInstances K a A = (numbers : List ℤ) → HasParams K a (scene_of K a (record { insn = A; numbers = numbers }))

abbrev pub InstancesHaveParams : Type 0
InstancesHaveParams = (K : Kernel) (a : Arguments) → IsFormed K → All (HasInstances K a) K.insns

-- two tests mean the same, or there is none
abbrev pub SameTest : World → Option Test → World → Option Test → Scene → Type 0
SameTest new None old None at = Unit {0}
SameTest new (Some t) old (Some u) at = meaning_of_test new t at ≡ meaning_of_test old u at
SameTest new None old (Some u) at = ⊥
SameTest new (Some t) old None at = ⊥

-- expanded, the value and the predicate mean in the expanded kernel what they mean in the kernel
pub record MeansTheSame (K : Kernel) (a : Arguments) (s : Store) (A : Insn) : Type 0 where
  pub value : (at : Scene) → HasParams K a at → meaning_of (world_of (expanded_kernel K) a s) (value_of K A) at ≡ meaning_of (world_of K a s) A.value at
  pub test : (at : Scene) → HasParams K a at → SameTest (world_of (expanded_kernel K) a s) (test_of K A) (world_of K a s) A.test at

-- Under any arguments and in any store, in each scene with the arguments' parameters.
abbrev pub ExpansionKeepsValues : Type 0
ExpansionKeepsValues = (K : Kernel) (a : Arguments) (s : Store) → IsFormed K → HasArities K → All (MeansTheSame K a s) K.insns

-- Where nothing refuses the expansion, the expanded kernel is formed, nothing refuses its own expansion, and no rule is used in it.
abbrev pub ExpansionIsFormed : Type 0
ExpansionIsFormed = (K : Kernel) → IsFormed K → IsExpandable K → IsFormed (expanded_kernel K) × IsExpandable (expanded_kernel K) × (all_calls (expanded_kernel K) ≡ [])

-- a valid kernel is valid expanded
abbrev pub ExpansionIsValid : Type 0
ExpansionIsValid = (K : Kernel) → IsValid K → IsValid (expanded_kernel K)
