-- Laws about kinds.
use Rattle.std.specs.Prelude.{◌≡◌, ℕ, true, is_some, List}
use Rattle.std.specs.List.{list_all}
use Rattle.std.specs.Option.{is_none}
use Rattle.wrap_words.specs.declared.kind.Kind.{Kind}
use Rattle.expr_tree.specs.declared.tree.Expr.{Expr}
use Rattle.expr_tree.specs.declared.tree.Test.{Test}
use Rattle.kernel_ir.specs.declared.kernel.Kernel.{Kernel}
use Rattle.kernel_ir.specs.Kinds.{kinds_in, typing_of, typing_of_test}
use Rattle.kernel_ir.specs.Mentions.{is_allowed, is_allowed_test}
use Rattle.kernel_ir.specs.Valid.{IsFormed, in_insn}
use Rattle.type_infer.specs.Judged.{known_in, mismatch_of, mismatch_of_test}

-- Where all temporaries have kinds, an expression has a kind exactly where it has no fault at it.
abbrev pub KindsAreWithoutFault : Type 0
KindsAreWithoutFault = (K : Kernel) → IsFormed K → list_all (λ t. is_some t.kind) K.temps ≡ true → (e : Expr) (scope : List ℕ) → is_allowed (in_insn K) e scope ≡ true → (k : Kind)
    → (typing_of (kinds_in K) e).has k ≡ is_none (mismatch_of (known_in K) e k)

-- Likewise for a test that stands where a kind is asked.
abbrev pub TestKindsAreWithoutFault : Type 0
TestKindsAreWithoutFault = (K : Kernel) → IsFormed K → list_all (λ t. is_some t.kind) K.temps ≡ true → (t : Test) (scope : List ℕ) → is_allowed_test (in_insn K) t scope ≡ true → (k : Kind)
    → typing_of_test (kinds_in K) t k ≡ is_none (mismatch_of_test (known_in K) t k)
