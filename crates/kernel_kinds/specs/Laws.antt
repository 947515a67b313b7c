-- What is proved of a kernel whose expressions are made of the trees of a file.
use Rattle.std.specs.Prelude.{◌≡◌, ℕ, ◌<◌, Bool, true, false, ◌||◌, is_some, List, [], ◌∷◌, map, length, slice_get, Option, Some, None}
use Rattle.std.specs.List.{list_any}
use Rattle.std.specs.Option.{option_map}
use Rattle.kernel_ir.specs.declared.kernel.Insn.{Insn}
use Rattle.kernel_ir.specs.declared.kernel.Kernel.{Kernel}
use Rattle.kernel_ir.specs.declared.kernel.Temp as temp
use Rattle.kernel_ir.specs.Valid.{IsFormed}
use Rattle.type_infer.specs.Inferred.{is_temp}
use Rattle.type_infer.specs.Typing.{typing_refusal}
use Rattle.untyped.specs.Exprs.{expr_of, test_of}
use Rattle.untyped_parts.specs.declared.trees.InsnTree.{InsnTree}
use Rattle.untyped_parts.specs.declared.trees.RuleTree.{RuleTree}
use Rattle.kernel_kinds.specs.Kinds.{kinds_refusal}

-- the instruction is made of the tree
pub record IsInsnOf (B : Insn) (A : InsnTree) : Type 0 where
  pub line : B.line ≡ A.line
  pub cell : B.cell ≡ A.cell
  pub value : B.value ≡ expr_of A.value
  pub test : B.test ≡ option_map test_of A.test

-- one after the other
abbrev pub AreInsnsOf : List Insn → List InsnTree → Type 0
AreInsnsOf [] [] = Unit {0}
AreInsnsOf (B ∷ Bs) (A ∷ As) = IsInsnOf B A × AreInsnsOf Bs As
AreInsnsOf _ _ = ⊥

abbrev pub has_kind : Option temp.Temp → Bool
has_kind None = false
has_kind (Some t) = is_some t.kind

-- Rules and instructions are made of the trees, and each temporary has a kind or is stored to.
pub record IsMadeOf (K : Kernel) (rules : List RuleTree) (insns : List InsnTree) : Type 0 where
  pub bodies : map (λ r. r.body) K.rules ≡ map (λ r. expr_of r.body) rules
  pub each : AreInsnsOf K.insns insns
  pub stored : (t : ℕ) → t < length K.temps → (has_kind (slice_get K.temps t) || list_any (λ A. is_temp t A.cell) insns) ≡ true

-- Where the trees are not refused for kinds, neither is the kernel.
abbrev pub TypedByTrees : Type 0
TypedByTrees = (K : Kernel) (rules : List RuleTree) (insns : List InsnTree) → IsFormed K → IsMadeOf K rules insns
    → kinds_refusal K rules insns ≡ None → typing_refusal K ≡ None
