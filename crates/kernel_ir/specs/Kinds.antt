-- The kinds of expressions.
use Rattle.std.specs.Prelude.{ℕ, zero, suc, Bool, true, false, ◌&&◌, nat_lt, length, slice_get, Option, Some, None, unwrap_or}
use Rattle.wrap_words.specs.declared.kind.Kind.{Kind}
use Rattle.wrap_words.specs.Words.{modulus_of, width_of}
use Rattle.expr_tree.specs.declared.tree.Cell.{Cell}
use Rattle.expr_tree.specs.declared.tree.Cell.TheVariants.{Array, Temp}
use Rattle.expr_tree.specs.declared.tree.Node.TheOpen.{Node-F, Test-F, Expr-F}
use Rattle.expr_tree.specs.declared.tree.Test.{Test, fold-Test}
use Rattle.expr_tree.specs.declared.tree.Expr.{Expr, fold-Expr}
use Rattle.expr_tree.specs.Value.{same_kind, is_unsigned, first_of_two}
use Rattle.kernel_ir.specs.declared.kernel.Kernel.{Kernel}
use Rattle.kernel_ir.specs.declared.kernel.SubstRule.{SubstRule}
use Rattle.kernel_ir.specs.declared.kernel.Array as array
use Rattle.kernel_ir.specs.declared.kernel.Temp as temp

-- What the kinds of an expression are: that of its first read or cast outside inner tests, and whether it has a kind.
pub record Typing : Type 0 where
  pub first : Option Kind
  pub has : Kind → Bool

-- the kinds of cells, and of uses of rules
pub record Kinds : Type 0 where
  pub cell : Cell → Option Kind
  pub call : ℕ → Typing

abbrev pub is_kind : Option Kind → Kind → Bool
is_kind None k = false
is_kind (Some c) k = same_kind c k

-- One node, with the kinds of each child in its place; a test has a truth at the kind that is asked of the node in which it stands.
abbrev pub node_typing : Kinds → Node-F Typing (Kind → Bool) Typing → Typing
node_typing w (Node-F.Literal n) = record { first = None; has = λ k. nat_lt n (modulus_of k) }
node_typing w (Node-F.Leaf form) = record { first = None; has = λ k. true }
node_typing w (Node-F.Read cell place) = record { first = w.cell cell; has = is_kind (w.cell cell) }
node_typing w (Node-F.Call rule arguments) = w.call rule
node_typing w (Node-F.Neg a) = a
node_typing w (Node-F.Inv a) = a
node_typing w (Node-F.Shl a by) = record { first = a.first; has = λ k. nat_lt by (width_of k) && a.has k }
node_typing w (Node-F.Shr a by) = record { first = a.first; has = λ k. is_unsigned k && (nat_lt by (width_of k) && a.has k) }
node_typing w (Node-F.Bin op a b) = record { first = first_of_two a.first b.first; has = λ k. a.has k && b.has k }
node_typing w (Node-F.Pick t a b) = record { first = first_of_two a.first b.first; has = λ k. t k && (a.has k && b.has k) }
node_typing w (Node-F.Cast to a) = record { first = Some to; has = λ k. same_kind to k && a.has (unwrap_or a.first to) }
node_typing w (Node-F.Fold op inames a) = a

abbrev pub test_typing : Test-F Typing (Kind → Bool) Typing → Kind → Bool
test_typing (Test-F.Words rel a b) k = let side = unwrap_or (first_of_two a.first b.first) k in a.has side && b.has side
test_typing (Test-F.Index rel a b) k = true
test_typing (Test-F.All p q) k = p k && q k
test_typing (Test-F.Any p q) k = p k && q k
test_typing (Test-F.Not p) k = p k

abbrev pub expr_typing : Expr-F Typing (Kind → Bool) Typing → Typing
expr_typing e = e.node

abbrev pub typing_of : Kinds → Expr → Typing
typing_of w = fold-Expr Typing (Kind → Bool) Typing (node_typing w) test_typing expr_typing

abbrev pub typing_of_test : Kinds → Test → Kind → Bool
typing_of_test w = fold-Test Typing (Kind → Bool) Typing (node_typing w) test_typing expr_typing

-- the kind of an array or temporary
abbrev pub array_kind : Option array.Array → Option Kind
array_kind None = None
array_kind (Some a) = Some a.kind

abbrev pub temp_kind : Option temp.Temp → Option Kind
temp_kind None = None
temp_kind (Some t) = t.kind

abbrev pub cell_kind : Kernel → Cell → Option Kind
cell_kind K (Array n) = array_kind (slice_get K.arrays n)
cell_kind K (Temp n) = temp_kind (slice_get K.temps n)

abbrev pub no_typing : Typing
no_typing = record { first = None; has = λ k. false }

-- a use of a rule has the kinds of its body
abbrev pub rule_typing : Kinds → Option SubstRule → Typing
rule_typing w None = no_typing
rule_typing w (Some rule) = typing_of w rule.body

abbrev pub kinds_to : Kernel → ℕ → Kinds
kinds_to K zero = record { cell = cell_kind K; call = λ rule. no_typing }
kinds_to K (suc n) = record { cell = cell_kind K; call = λ rule. rule_typing (kinds_to K n) (slice_get K.rules rule) }

-- rules use each other at most as deep as there are rules
abbrev pub kinds_in : Kernel → Kinds
kinds_in K = kinds_to K (length K.rules)
