-- Small expressions and kernels, and how they are refused.
use Rattle.std.specs.Prelude.{◌≡◌, ℕ, true, false, List, [], ◌∷◌, Some, None, codes}
use Rattle.wrap_words.specs.declared.kind.Kind.TheVariants.{I32, I64}
use Rattle.affine_rows.specs.declared.quasi.Quasi.{Quasi}
use Rattle.expr_tree.specs.declared.tree.Cell.{Cell}
use Rattle.expr_tree.specs.declared.tree.Cell.TheVariants.{Temp}
use Rattle.expr_tree.specs.declared.tree.Op.TheVariants.{Add}
use Rattle.expr_tree.specs.declared.tree.Expr.{Expr}
use Rattle.expr_tree.specs.declared.tree.Node.TheVariants as node
use Rattle.expr_tree.specs.Rewritten.{tree_of}
use Rattle.kernel_ir.specs.declared.kernel.Kernel.{Kernel}
use Rattle.kernel_ir.specs.declared.kernel.Insn.{Insn}
use Rattle.kernel_ir.specs.declared.kernel.Storing.TheVariants.{Plain}
use Rattle.kernel_ir.specs.declared.fault.Site.TheVariants as site
use Rattle.kernel_ir.specs.Refusals.{refusal}
use Rattle.type_infer.specs.Judged.{Known, judged_of, mismatch_of}
use Rattle.type_infer.specs.Typing.{mismatch_at, typing_refusal}

abbrev pub literal : ℕ → Expr
literal n = tree_of (node.Literal n)

abbrev pub cast_to_int64 : Expr → Expr
cast_to_int64 e = tree_of (node.Cast I64 e)

-- A read that is cast to int64 and stored to int32, by rule 9.
abbrev pub CastIsNoInt32 : Type 0
CastIsNoInt32 = (w : Known) (cell : Cell) (place : List Quasi) (line : ℕ)
    → mismatch_at line (mismatch_of w (cast_to_int64 (tree_of (node.Read cell place))) I32) ≡ Some (record (refusal site.Kernel 9 (codes "int32" ∷ codes "int64" ∷ []) []) { line = line })

-- A literal that is too large for int32, by rule 9.
abbrev pub LiteralIsTooLarge : Type 0
LiteralIsTooLarge = (w : Known) (line : ℕ)
    → mismatch_at line (mismatch_of w (literal 5000000000) I32) ≡ Some (record (refusal site.Kernel 9 (codes "int32" ∷ codes "form" ∷ []) []) { line = line })

-- `cast(int32, a + f()) + f()` stored to int32, where `a` is int64 and the body of `f` is 7: the rule is used at two kinds.
abbrev pub RuleAtTwoKinds : Type 0
RuleAtTwoKinds = (w : Known) (a : Cell) (place : List Quasi) (rule : ℕ) → w.cell a ≡ Some I64 → w.call rule ≡ judged_of w (literal 7)
    → mismatch_of w (tree_of (node.Bin Add (tree_of (node.Cast I32 (tree_of (node.Bin Add (tree_of (node.Read a place)) (tree_of (node.Call rule [])))))) (tree_of (node.Call rule [])))) I32 ≡ None

-- `<> t = 5` at a line, and nothing else
abbrev pub five_stored : ℕ → Insn
five_stored line = record {
  id = codes "s";
  line = line;
  inames = [];
  rows = [];
  test = None;
  cell = Temp 0;
  place = [];
  storing = Plain;
  value = literal 5;
  deps = [];
  auto = true;
}

abbrev pub storing_five : ℕ → Kernel
storing_five line = record {
  names = [];
  params = [];
  inames = [];
  priority = [];
  rows = [];
  assumptions = [];
  arrays = [];
  temps = record { name = codes "t"; kind = None; shape = []; local = false } ∷ [];
  rules = [];
  insns = five_stored line ∷ [];
}

-- It is refused by rule 10.
abbrev pub FiveHasNoKind : Type 0
FiveHasNoKind = (line : ℕ) → typing_refusal (storing_five line) ≡ Some (record (refusal site.Kernel 10 (codes "t" ∷ []) []) { line = line })
