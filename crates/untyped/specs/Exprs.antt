-- Expressions and tests in which values and tests are told apart.
use Rattle.std.specs.Prelude.{ℕ, ◌^◌, ◌-◌, min, Bool, true, false, if◌then◌else◌, Option, Some, None}
use Rattle.affine_rows.specs.declared.quasi.Quasi.{Quasi}
use Rattle.expr_tree.specs.declared.tree.Op.{Op}
use Rattle.expr_tree.specs.declared.tree.Op.TheVariants as op
use Rattle.expr_tree.specs.declared.tree.Rel.{Rel}
use Rattle.expr_tree.specs.declared.tree.Rel.TheVariants as rel
use Rattle.expr_tree.specs.declared.tree.Expr.{Expr}
use Rattle.expr_tree.specs.declared.tree.Node.TheVariants as node
use Rattle.expr_tree.specs.declared.tree.Test.{Test}
use Rattle.expr_tree.specs.declared.tree.Test.TheVariants as test
use Rattle.expr_tree.specs.Rewritten.{tree_of}
use Rattle.kernel_grammar.specs.declared.item.Relation.{Relation}
use Rattle.kernel_grammar.specs.declared.item.Relation.TheVariants as relation
use Rattle.kernel_grammar.specs.declared.step.Prefix.{Prefix}
use Rattle.kernel_grammar.specs.declared.step.Prefix.TheVariants.{Not, Negate, Invert}
use Rattle.kernel_grammar.specs.declared.step.Extreme.TheVariants.{Min, Max}
use Rattle.kernel_grammar.specs.declared.step.Infix.{Infix}
use Rattle.kernel_grammar.specs.declared.step.Infix.TheVariants as infixed
use Rattle.kernel_grammar.specs.declared.step.Folding.{Folding}
use Rattle.kernel_grammar.specs.declared.step.Folding.TheVariants as folding
use Rattle.untyped.specs.declared.tree.Term.TheOpen.{Term-F, Untyped-F}
use Rattle.untyped.specs.declared.tree.Untyped.{Untyped, fold-Untyped}
use Rattle.untyped.specs.declared.joints.Joint.{Joint}
use Rattle.untyped.specs.declared.joints.Joint.TheVariants as joint
use Rattle.untyped.specs.Indexes.{one}

-- an expression as a value and as a test, and as an index expression if it is one
pub record Made : Type 0 where
  pub expr : Expr
  pub test : Test
  pub form : Option Quasi

-- what stands where a value or a test is wanted and none is
abbrev pub no_expr : Expr
no_expr = tree_of (node.Leaf one)

abbrev pub no_test : Test
no_test = test.Index rel.Equal one one

abbrev pub value_made : Expr → Made
value_made e = record { expr = e; test = no_test; form = None }

-- the operator on words, if it is one
abbrev pub op_of : Infix → Option Op
op_of infixed.Add = Some op.Add
op_of infixed.Subtract = Some op.Sub
op_of infixed.Multiply = Some op.Mul
op_of infixed.BitOr = Some op.Or
op_of infixed.BitXor = Some op.Xor
op_of infixed.BitAnd = Some op.And
op_of (infixed.Extreme Min) = Some op.Min
op_of (infixed.Extreme Max) = Some op.Max
op_of _ = None

abbrev pub folding_op : Folding → Op
folding_op folding.Sum = op.Add
folding_op folding.Product = op.Mul
folding_op (folding.Extreme Min) = op.Min
folding_op (folding.Extreme Max) = op.Max

abbrev pub relation_joint : Relation → Joint
relation_joint relation.LessEqual = joint.Compared rel.LessEqual false
relation_joint relation.Less = joint.Compared rel.Less false
relation_joint relation.GreaterEqual = joint.Compared rel.LessEqual true
relation_joint relation.Greater = joint.Compared rel.Less true
relation_joint relation.Equal = joint.Compared rel.Equal false

-- what an operator makes of its operands as a test
abbrev pub joint_of : Infix → Joint
joint_of infixed.Or = joint.Any
joint_of infixed.And = joint.All
joint_of (infixed.Compare r) = relation_joint r
joint_of infixed.NotEqual = joint.Compared rel.NotEqual false
joint_of _ = joint.Nothing

abbrev pub words_test : Rel → Bool → Expr → Expr → Test
words_test r turned a b = if turned then test.Words r b a else test.Words r a b

abbrev pub index_test : Rel → Bool → Quasi → Quasi → Test
index_test r turned f g = if turned then test.Index r g f else test.Index r f g

-- two index expressions are compared as integers
abbrev pub compared : Rel → Bool → Option Quasi → Option Quasi → Expr → Expr → Test
compared r turned (Some f) (Some g) a b = index_test r turned f g
compared r turned (Some f) None a b = words_test r turned a b
compared r turned None g a b = words_test r turned a b

abbrev pub infix_expr : Option Op → Expr → Expr → Expr
infix_expr None a b = no_expr
infix_expr (Some o) a b = tree_of (node.Bin o a b)

abbrev pub joint_test : Joint → Made → Made → Test
joint_test joint.Any a b = test.Any a.test b.test
joint_test joint.All a b = test.All a.test b.test
joint_test (joint.Compared r turned) a b = compared r turned a.form b.form a.expr b.expr
joint_test joint.Nothing a b = no_test

abbrev pub prefix_made : Prefix → Made → Made
prefix_made Not a = record { expr = no_expr; test = test.Not a.test; form = None }
prefix_made Negate a = value_made (tree_of (node.Neg a.expr))
prefix_made Invert a = value_made (tree_of (node.Inv a.expr))

-- a count of bits; one that is too large stays so
abbrev pub shift_by : ℕ → ℕ
shift_by by = min by (2 ^ 32 - 1)

-- One term, with what each part is in its place.
abbrev pub term_made : Term-F Made Made → Made
term_made (Term-F.Index form constant) = record { expr = tree_of (node.Leaf form); test = no_test; form = Some form }
term_made (Term-F.Literal n) = value_made (tree_of (node.Literal n))
term_made (Term-F.Read cell place) = value_made (tree_of (node.Read cell place))
term_made (Term-F.Use rule arguments) = value_made (tree_of (node.Call rule arguments))
term_made (Term-F.Prefix o a) = prefix_made o a
term_made (Term-F.Infix o a b) = record { expr = infix_expr (op_of o) a.expr b.expr; test = joint_test (joint_of o) a b; form = None }
term_made (Term-F.ShiftLeft a by) = value_made (tree_of (node.Shl a.expr (shift_by by)))
term_made (Term-F.ShiftRight a by) = value_made (tree_of (node.Shr a.expr (shift_by by)))
term_made (Term-F.Cast kind a) = value_made (tree_of (node.Cast kind a.expr))
term_made (Term-F.Choose t a b) = value_made (tree_of (node.Pick t.test a.expr b.expr))
term_made (Term-F.Fold how inames a) = value_made (tree_of (node.Fold (folding_op how) inames a.expr))

abbrev pub tree_made : Untyped-F Made Made → Made
tree_made e = e.term

abbrev pub made_of : Untyped → Made
made_of = fold-Untyped Made Made term_made tree_made

-- the form of an index expression
abbrev pub form_of : Untyped → Option Quasi
form_of e = (made_of e).form

abbrev pub expr_of : Untyped → Expr
expr_of e = (made_of e).expr

abbrev pub test_of : Untyped → Test
test_of e = (made_of e).test
