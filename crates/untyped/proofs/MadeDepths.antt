-- The expression or test that is made of a tree is no deeper than the tree.
use Rattle.std.proofs.Common.{◌≡◌, ◌≤◌, ℕ, ◌+◌, max, Bool, true, false, ◌&&◌, cond, Option, Some, None, is_some, arith, refl, ap₂, subst}
use Rattle.affine_rows.specs.declared.quasi.Quasi.{Quasi}
use Rattle.expr_tree.specs.declared.tree.Op.{Op}
use Rattle.expr_tree.specs.declared.tree.Op.TheVariants as op
use Rattle.expr_tree.specs.declared.tree.Rel.{Rel}
use Rattle.expr_tree.specs.declared.tree.Rel.TheVariants as rel
use Rattle.expr_tree.specs.declared.tree.Expr.{Expr}
use Rattle.expr_tree.specs.declared.tree.Node.TheVariants as node
use Rattle.expr_tree.specs.declared.tree.Test.{Test}
use Rattle.expr_tree.specs.declared.tree.Test.TheVariants as test
use Rattle.expr_tree.specs.Rewritten.{tree_of}
use Rattle.expr_tree.specs.Depth as made
use Rattle.expr_tree.specs.Depth.{node_step, test_step}
use Rattle.kernel_grammar.specs.declared.item.Relation.TheVariants as relation
use Rattle.kernel_grammar.specs.declared.step.Prefix.{Prefix}
use Rattle.kernel_grammar.specs.declared.step.Prefix.TheVariants.{Not, Negate, Invert}
use Rattle.kernel_grammar.specs.declared.step.Extreme.TheVariants.{Min, Max}
use Rattle.kernel_grammar.specs.declared.step.Infix.{Infix}
use Rattle.kernel_grammar.specs.declared.step.Infix.TheVariants as infixed
use Rattle.untyped.specs.declared.tree.Term.{map-Term}
use Rattle.untyped.specs.declared.tree.Term.TheOpen.{Term-F}
use Rattle.untyped.specs.declared.tree.Untyped.{Untyped}
use Rattle.untyped.specs.Indexes.{one}
use Rattle.untyped.specs.Exprs.{Made, no_expr, no_test, value_made, prefix_made, shift_by, folding_op, infix_expr, joint_test, op_of, joint_of, words_test, index_test, compared, term_made, made_of, expr_of, test_of}
use Rattle.untyped.specs.Depths.{Measure, below, no_index, term_measure, measure_of, tree_depth}
use Rattle.expr_tree.proofs.Made.{made-Literal, made-Leaf, made-Read, made-Call, made-Neg, made-Inv, made-Shl, made-Shr, made-Bin, made-Pick, made-Cast, made-Fold, made-Words, made-Index, made-All, made-Any, made-Not}
use Rattle.untyped.proofs.Layers.{Linked, linked}

-- no deeper than the measure, and an index expression where it says so
record Kept (m : Made) (d : Measure) : Type 0 where
  pub expr : made.depth_of m.expr ≤ d.depth
  pub test : made.depth_of_test m.test ≤ d.depth
  pub some : 1 ≤ d.depth
  pub index : is_some m.form ≡ d.index

no_expr_depth : made.depth_of no_expr ≡ 1
no_expr_depth = made-Leaf ℕ ℕ node_step test_step one

no_test_depth : made.depth_of_test no_test ≡ 1
no_test_depth = made-Index ℕ ℕ node_step test_step rel.Equal one one

value_kept : (e : Expr) (d n : ℕ) → made.depth_of e ≡ d → d ≤ n → 1 ≤ n → Kept (value_made e) (no_index n)
value_kept e d n is le some = record { expr = omega (arith, is, le); test = omega (arith, no_test_depth, some); some = some; index = refl }

-- neither a value nor a test of its own
abbrev none_made : Made
none_made = record { expr = no_expr; test = no_test; form = None }

none_kept : (n : ℕ) → 1 ≤ n → Kept none_made (no_index n)
none_kept n some = value_kept no_expr 1 n no_expr_depth some some

-- a test and no value
test_kept : (t : Test) (d n : ℕ) → made.depth_of_test t ≡ d → d ≤ n → 1 ≤ n → Kept (record { expr = no_expr; test = t; form = None }) (no_index n)
test_kept t d n is le some = record { expr = omega (arith, no_expr_depth, some); test = omega (arith, is, le); some = some; index = refl }

index_depth : (r : Rel) (turned : Bool) (f g : Quasi) → made.depth_of_test (index_test r turned f g) ≡ 1
index_depth r true f g = made-Index ℕ ℕ node_step test_step r g f
index_depth r false f g = made-Index ℕ ℕ node_step test_step r f g

words_depth : (r : Rel) (turned : Bool) (a b : Expr) (m n : ℕ) → made.depth_of a ≤ m → made.depth_of b ≤ n → made.depth_of_test (words_test r turned a b) ≤ max m n + 1
words_depth r true a b m n h k = omega (arith, made-Words ℕ ℕ node_step test_step r b a, h, k)
words_depth r false a b m n h k = omega (arith, made-Words ℕ ℕ node_step test_step r a b, h, k)

compared_depth : (r : Rel) (turned : Bool) (f g : Option Quasi) (a b : Expr) (m n : ℕ) → made.depth_of a ≤ m → made.depth_of b ≤ n
    → made.depth_of_test (compared r turned f g a b) ≤ cond (is_some f && is_some g) 0 (max m n) + 1
compared_depth r turned (Some f) (Some g) a b m n h k = omega (arith, index_depth r turned f g)
compared_depth r turned (Some f) None a b m n h k = words_depth r turned a b m n h k
compared_depth r turned None (Some g) a b m n h k = words_depth r turned a b m n h k
compared_depth r turned None None a b m n h k = words_depth r turned a b m n h k

module _ (a b : Made) (d e : Measure) (h : Kept a d) (k : Kept b e) where
  words_kept : (o : Op) → Kept (value_made (tree_of (node.Bin o a.expr b.expr))) (no_index (max d.depth e.depth + 1))
  words_kept o =
      value_kept (tree_of (node.Bin o a.expr b.expr)) (max (made.depth_of a.expr) (made.depth_of b.expr) + 1) (max d.depth e.depth + 1)
      (made-Bin ℕ ℕ node_step test_step o a.expr b.expr) (omega (arith, h.expr, k.expr)) (omega arith)

  any_kept : Kept (record { expr = no_expr; test = test.Any a.test b.test; form = None }) (no_index (max d.depth e.depth + 1))
  any_kept =
      test_kept (test.Any a.test b.test) (max (made.depth_of_test a.test) (made.depth_of_test b.test) + 1) (max d.depth e.depth + 1)
      (made-Any ℕ ℕ node_step test_step a.test b.test) (omega (arith, h.test, k.test)) (omega arith)

  all_kept : Kept (record { expr = no_expr; test = test.All a.test b.test; form = None }) (no_index (max d.depth e.depth + 1))
  all_kept =
      test_kept (test.All a.test b.test) (max (made.depth_of_test a.test) (made.depth_of_test b.test) + 1) (max d.depth e.depth + 1)
      (made-All ℕ ℕ node_step test_step a.test b.test) (omega (arith, h.test, k.test)) (omega arith)

  compared_kept : (r : Rel) (turned : Bool)
      → Kept (record { expr = no_expr; test = compared r turned a.form b.form a.expr b.expr; form = None }) (no_index (cond (d.index && e.index) 0 (max d.depth e.depth) + 1))
  compared_kept r turned =
      subst (λ (i : Bool). Kept (record { expr = no_expr; test = compared r turned a.form b.form a.expr b.expr; form = None }) (no_index (cond i 0 (max d.depth e.depth) + 1)))
      (ap₂ (λ (i j : Bool). i && j) h.index k.index)
      (test_kept (compared r turned a.form b.form a.expr b.expr) (made.depth_of_test (compared r turned a.form b.form a.expr b.expr)) (cond (is_some a.form && is_some b.form) 0 (max d.depth e.depth) + 1)
      refl (compared_depth r turned a.form b.form a.expr b.expr d.depth e.depth h.expr k.expr) (omega arith))

  infix_kept : (o : Infix) → Kept (record { expr = infix_expr (op_of o) a.expr b.expr; test = joint_test (joint_of o) a b; form = None }) (no_index (below o d e + 1))
  infix_kept infixed.Or = any_kept
  infix_kept infixed.And = all_kept
  infix_kept (infixed.Compare relation.LessEqual) = compared_kept rel.LessEqual false
  infix_kept (infixed.Compare relation.Less) = compared_kept rel.Less false
  infix_kept (infixed.Compare relation.GreaterEqual) = compared_kept rel.LessEqual true
  infix_kept (infixed.Compare relation.Greater) = compared_kept rel.Less true
  infix_kept (infixed.Compare relation.Equal) = compared_kept rel.Equal false
  infix_kept infixed.NotEqual = compared_kept rel.NotEqual false
  infix_kept infixed.Add = words_kept op.Add
  infix_kept infixed.Subtract = words_kept op.Sub
  infix_kept infixed.Multiply = words_kept op.Mul
  infix_kept infixed.Divide = none_kept (max d.depth e.depth + 1) (omega arith)
  infix_kept infixed.Remainder = none_kept (max d.depth e.depth + 1) (omega arith)
  infix_kept infixed.BitOr = words_kept op.Or
  infix_kept infixed.BitXor = words_kept op.Xor
  infix_kept infixed.BitAnd = words_kept op.And
  infix_kept (infixed.Extreme Min) = words_kept op.Min
  infix_kept (infixed.Extreme Max) = words_kept op.Max

prefix_kept : (o : Prefix) (a : Made) (d : Measure) → Kept a d → Kept (prefix_made o a) (no_index (d.depth + 1))
prefix_kept Not a d h = test_kept (test.Not a.test) (made.depth_of_test a.test + 1) (d.depth + 1) (made-Not ℕ ℕ node_step test_step a.test) (omega (arith, h.test)) (omega arith)
prefix_kept Negate a d h = value_kept (tree_of (node.Neg a.expr)) (made.depth_of a.expr + 1) (d.depth + 1) (made-Neg ℕ ℕ node_step test_step a.expr) (omega (arith, h.expr)) (omega arith)
prefix_kept Invert a d h = value_kept (tree_of (node.Inv a.expr)) (made.depth_of a.expr + 1) (d.depth + 1) (made-Inv ℕ ℕ node_step test_step a.expr) (omega (arith, h.expr)) (omega arith)

abbrev Part : Type 0
Part = Linked term_made term_measure term_measure (λ m d c. Kept m d)

kept_step : (y : Term-F Part Part) → Kept (term_made (map-Term _ _ _ _ (λ p. p.a) (λ p. p.a) y)) (term_measure (map-Term _ _ _ _ (λ p. p.b) (λ p. p.b) y))
kept_step (Term-F.Index form constant) = record { expr = omega (arith, made-Leaf ℕ ℕ node_step test_step form); test = omega (arith, no_test_depth); some = omega arith; index = refl }
kept_step (Term-F.Literal n) = value_kept (tree_of (node.Literal n)) 1 1 (made-Literal ℕ ℕ node_step test_step n) (omega arith) (omega arith)
kept_step (Term-F.Read cell place) = value_kept (tree_of (node.Read cell place)) 1 1 (made-Read ℕ ℕ node_step test_step cell place) (omega arith) (omega arith)
kept_step (Term-F.Use rule arguments) = value_kept (tree_of (node.Call rule arguments)) 1 1 (made-Call ℕ ℕ node_step test_step rule arguments) (omega arith) (omega arith)
kept_step (Term-F.Prefix o p) = prefix_kept o p.a p.b p.is
kept_step (Term-F.Infix o p q) = infix_kept p.a q.a p.b q.b p.is q.is o
kept_step (Term-F.ShiftLeft p by) =
    value_kept (tree_of (node.Shl p.a.expr (shift_by by))) (made.depth_of p.a.expr + 1) (p.b.depth + 1) (made-Shl ℕ ℕ node_step test_step p.a.expr (shift_by by)) (omega (arith, p.is.expr)) (omega arith)
kept_step (Term-F.ShiftRight p by) =
    value_kept (tree_of (node.Shr p.a.expr (shift_by by))) (made.depth_of p.a.expr + 1) (p.b.depth + 1) (made-Shr ℕ ℕ node_step test_step p.a.expr (shift_by by)) (omega (arith, p.is.expr)) (omega arith)
kept_step (Term-F.Cast kind p) =
    value_kept (tree_of (node.Cast kind p.a.expr)) (made.depth_of p.a.expr + 1) (p.b.depth + 1) (made-Cast ℕ ℕ node_step test_step kind p.a.expr) (omega (arith, p.is.expr)) (omega arith)
kept_step (Term-F.Choose t p q) =
    value_kept (tree_of (node.Pick t.a.test p.a.expr q.a.expr)) (max (made.depth_of_test t.a.test) (max (made.depth_of p.a.expr) (made.depth_of q.a.expr)) + 1) (max t.b.depth (max p.b.depth q.b.depth) + 1)
    (made-Pick ℕ ℕ node_step test_step t.a.test p.a.expr q.a.expr) (omega (arith, t.is.test, p.is.expr, q.is.expr)) (omega arith)
kept_step (Term-F.Fold how inames p) =
    value_kept (tree_of (node.Fold (folding_op how) inames p.a.expr)) (made.depth_of p.a.expr + 1) (p.b.depth + 1) (made-Fold ℕ ℕ node_step test_step (folding_op how) inames p.a.expr)
    (omega (arith, p.is.expr)) (omega arith)

kept : (e : Untyped) → Kept (made_of e) (measure_of e)
kept = linked term_made term_measure term_measure (λ m d c. Kept m d) kept_step

pub expr_kept : (e : Untyped) → made.depth_of (expr_of e) ≤ tree_depth e
expr_kept e = (kept e).expr

pub test_kept_in : (e : Untyped) → made.depth_of_test (test_of e) ≤ tree_depth e
test_kept_in e = (kept e).test
