-- The inames that are bound in what is made of an expression are among those that the expression binds.
use Rattle.std.proofs.Common.{◌≡◌, ℕ, Bool, true, false, List, [], ◌++◌, Option, Some, None, sym, subst}
use Rattle.affine_rows.specs.declared.quasi.Quasi.{Quasi}
use Rattle.expr_tree.specs.declared.tree.Op.{Op}
use Rattle.expr_tree.specs.declared.tree.Rel.{Rel}
use Rattle.expr_tree.specs.declared.tree.Rel.TheVariants as rel
use Rattle.expr_tree.specs.declared.tree.Expr.{Expr}
use Rattle.expr_tree.specs.declared.tree.Node.TheVariants as node
use Rattle.expr_tree.specs.declared.tree.Test.{Test}
use Rattle.expr_tree.specs.declared.tree.Test.TheVariants as test
use Rattle.expr_tree.specs.Rewritten.{tree_of}
use Rattle.expr_tree.proofs.Made.{made-Literal, made-Leaf, made-Read, made-Call, made-Neg, made-Inv, made-Shl, made-Shr, made-Bin, made-Pick, made-Cast, made-Fold, made-Words, made-Index, made-All, made-Any, made-Not}
use Rattle.kernel_grammar.specs.declared.item.Relation.TheVariants as relation
use Rattle.kernel_grammar.specs.declared.step.Prefix.{Prefix}
use Rattle.kernel_grammar.specs.declared.step.Prefix.TheVariants.{Not, Negate, Invert}
use Rattle.kernel_grammar.specs.declared.step.Infix.{Infix}
use Rattle.kernel_grammar.specs.declared.step.Infix.TheVariants as infixed
use Rattle.kernel_ir.specs.Mentions.{node_listed, test_listed, listed, listed_in_test, folded}
use Rattle.untyped.specs.declared.tree.Term.{map-Term}
use Rattle.untyped.specs.declared.tree.Term.TheOpen.{Term-F}
use Rattle.untyped.specs.declared.tree.Untyped.{Untyped}
use Rattle.untyped.specs.Indexes.{one}
use Rattle.untyped.specs.Exprs.{Made, no_expr, no_test, value_made, prefix_made, shift_by, folding_op, infix_expr, joint_test, op_of, joint_of, words_test, index_test, compared, term_made, made_of, expr_of, test_of}
use Rattle.untyped.proofs.Layers.{Linked, linked}
use Rattle.untyped_parts.specs.Mentions.{Listing, term_listed, bound}
use Rattle.kernel_formed.specs.Taken.{IsTakenFrom}
use Rattle.kernel_formed.proofs.TakenLists.{joined, turned, itself, nothing}

-- how inames are listed that reductions bind
abbrev pub binding : Listing
binding = record { index = λ form. []; read = λ place. []; call = λ rule arguments. []; fold = λ inames inner. inames ++ inner }

abbrev Names : Type 0
Names = List ℕ

abbrev in_expr : Expr → Names
in_expr = listed folded

abbrev in_test : Test → Names
in_test = listed_in_test folded

-- what is bound in what is made
record Binds (a : Made) (names : Names) : Type 0 where
  expr : IsTakenFrom (in_expr a.expr) names
  test : IsTakenFrom (in_test a.test) names

as_list : (made some all : Names) → made ≡ some → IsTakenFrom some all → IsTakenFrom made all
as_list made some all e h = subst (λ (xs : Names). IsTakenFrom xs all) (sym e) h

no_expr_binds : (all : Names) → IsTakenFrom (in_expr no_expr) all
no_expr_binds all = as_list (in_expr no_expr) [] all (made-Leaf Names Names (node_listed folded) (test_listed folded) one) (nothing all)

no_test_binds : (all : Names) → IsTakenFrom (in_test no_test) all
no_test_binds all = as_list (in_test no_test) [] all (made-Index Names Names (node_listed folded) (test_listed folded) rel.Equal one one) (nothing all)

value_binds : (e : Expr) (some all : Names) → in_expr e ≡ some → IsTakenFrom some all → Binds (value_made e) all
value_binds e some all made h = record { expr = as_list (in_expr e) some all made h; test = no_test_binds all }

index_binds : (r : Rel) (is_turned : Bool) (f g : Quasi) (all : Names) → IsTakenFrom (in_test (index_test r is_turned f g)) all
index_binds r true f g all = as_list (in_test (test.Index r g f)) [] all (made-Index Names Names (node_listed folded) (test_listed folded) r g f) (nothing all)
index_binds r false f g all = as_list (in_test (test.Index r f g)) [] all (made-Index Names Names (node_listed folded) (test_listed folded) r f g) (nothing all)

module _ (a b : Made) (xs ys : Names) (h : Binds a xs) (k : Binds b ys) where
  words_bind : (r : Rel) (is_turned : Bool) → IsTakenFrom (in_test (words_test r is_turned a.expr b.expr)) (xs ++ ys)
  words_bind r true =
      as_list (in_test (test.Words r b.expr a.expr)) _ (xs ++ ys) (made-Words Names Names (node_listed folded) (test_listed folded) r b.expr a.expr)
      (turned (in_expr a.expr) xs (in_expr b.expr) ys h.expr k.expr)
  words_bind r false =
      as_list (in_test (test.Words r a.expr b.expr)) _ (xs ++ ys) (made-Words Names Names (node_listed folded) (test_listed folded) r a.expr b.expr)
      (joined (in_expr a.expr) xs (in_expr b.expr) ys h.expr k.expr)

  compared_binds : (r : Rel) (is_turned : Bool) (f g : Option Quasi) → IsTakenFrom (in_test (compared r is_turned f g a.expr b.expr)) (xs ++ ys)
  compared_binds r is_turned (Some f) (Some g) = index_binds r is_turned f g (xs ++ ys)
  compared_binds r is_turned (Some f) None = words_bind r is_turned
  compared_binds r is_turned None g = words_bind r is_turned

  joint_binds : (o : Infix) → IsTakenFrom (in_test (joint_test (joint_of o) a b)) (xs ++ ys)
  joint_binds infixed.Or =
      as_list (in_test (test.Any a.test b.test)) _ (xs ++ ys) (made-Any Names Names (node_listed folded) (test_listed folded) a.test b.test)
      (joined (in_test a.test) xs (in_test b.test) ys h.test k.test)
  joint_binds infixed.And =
      as_list (in_test (test.All a.test b.test)) _ (xs ++ ys) (made-All Names Names (node_listed folded) (test_listed folded) a.test b.test)
      (joined (in_test a.test) xs (in_test b.test) ys h.test k.test)
  joint_binds (infixed.Compare relation.LessEqual) = compared_binds rel.LessEqual false a.form b.form
  joint_binds (infixed.Compare relation.Less) = compared_binds rel.Less false a.form b.form
  joint_binds (infixed.Compare relation.GreaterEqual) = compared_binds rel.LessEqual true a.form b.form
  joint_binds (infixed.Compare relation.Greater) = compared_binds rel.Less true a.form b.form
  joint_binds (infixed.Compare relation.Equal) = compared_binds rel.Equal false a.form b.form
  joint_binds infixed.NotEqual = compared_binds rel.NotEqual false a.form b.form
  joint_binds _ = no_test_binds (xs ++ ys)

  operation_binds : (o : Option Op) → IsTakenFrom (in_expr (infix_expr o a.expr b.expr)) (xs ++ ys)
  operation_binds None = no_expr_binds (xs ++ ys)
  operation_binds (Some o) =
      as_list (in_expr (tree_of (node.Bin o a.expr b.expr))) _ (xs ++ ys) (made-Bin Names Names (node_listed folded) (test_listed folded) o a.expr b.expr)
      (joined (in_expr a.expr) xs (in_expr b.expr) ys h.expr k.expr)

prefix_binds : (o : Prefix) (a : Made) (xs : Names) → Binds a xs → Binds (prefix_made o a) xs
prefix_binds Not a xs h = record {
  expr = no_expr_binds xs;
  test = as_list (in_test (test.Not a.test)) _ xs (made-Not Names Names (node_listed folded) (test_listed folded) a.test) h.test;
}
prefix_binds Negate a xs h = value_binds (tree_of (node.Neg a.expr)) _ xs (made-Neg Names Names (node_listed folded) (test_listed folded) a.expr) h.expr
prefix_binds Invert a xs h = value_binds (tree_of (node.Inv a.expr)) _ xs (made-Inv Names Names (node_listed folded) (test_listed folded) a.expr) h.expr

abbrev Part : Type 0
Part = Linked term_made (term_listed binding) (term_listed binding) (λ a xs ys. Binds a xs)

binds_step : (y : Term-F Part Part)
    → Binds (term_made (map-Term _ _ _ _ (λ p. p.a) (λ p. p.a) y)) (term_listed binding (map-Term _ _ _ _ (λ p. p.b) (λ p. p.b) y))
binds_step (Term-F.Index form constant) = record {
  expr = as_list (in_expr (tree_of (node.Leaf form))) [] [] (made-Leaf Names Names (node_listed folded) (test_listed folded) form) (nothing []);
  test = no_test_binds [];
}
binds_step (Term-F.Literal n) = value_binds (tree_of (node.Literal n)) [] [] (made-Literal Names Names (node_listed folded) (test_listed folded) n) (nothing [])
binds_step (Term-F.Read cell place) =
    value_binds (tree_of (node.Read cell place)) [] [] (made-Read Names Names (node_listed folded) (test_listed folded) cell place) (nothing [])
binds_step (Term-F.Use rule arguments) =
    value_binds (tree_of (node.Call rule arguments)) [] [] (made-Call Names Names (node_listed folded) (test_listed folded) rule arguments) (nothing [])
binds_step (Term-F.Prefix o p) = prefix_binds o p.a p.b p.is
binds_step (Term-F.Infix o p q) = record { expr = operation_binds p.a q.a p.b q.b p.is q.is (op_of o); test = joint_binds p.a q.a p.b q.b p.is q.is o }
binds_step (Term-F.ShiftLeft p by) =
    value_binds (tree_of (node.Shl p.a.expr (shift_by by))) _ p.b
    (made-Shl Names Names (node_listed folded) (test_listed folded) p.a.expr (shift_by by)) p.is.expr
binds_step (Term-F.ShiftRight p by) =
    value_binds (tree_of (node.Shr p.a.expr (shift_by by))) _ p.b
    (made-Shr Names Names (node_listed folded) (test_listed folded) p.a.expr (shift_by by)) p.is.expr
binds_step (Term-F.Cast kind p) =
    value_binds (tree_of (node.Cast kind p.a.expr)) _ p.b (made-Cast Names Names (node_listed folded) (test_listed folded) kind p.a.expr) p.is.expr
binds_step (Term-F.Choose t p q) =
    value_binds (tree_of (node.Pick t.a.test p.a.expr q.a.expr)) _ (t.b ++ (p.b ++ q.b))
    (made-Pick Names Names (node_listed folded) (test_listed folded) t.a.test p.a.expr q.a.expr)
    (joined (in_test t.a.test) t.b _ (p.b ++ q.b) t.is.test (joined (in_expr p.a.expr) p.b (in_expr q.a.expr) q.b p.is.expr q.is.expr))
binds_step (Term-F.Fold how inames p) =
    value_binds (tree_of (node.Fold (folding_op how) inames p.a.expr)) _ (inames ++ p.b)
    (made-Fold Names Names (node_listed folded) (test_listed folded) (folding_op how) inames p.a.expr)
    (joined inames inames (in_expr p.a.expr) p.b (itself inames) p.is.expr)

bound_made : (e : Untyped) → Binds (made_of e) (bound e)
bound_made = linked term_made (term_listed binding) (term_listed binding) (λ a xs ys. Binds a xs) binds_step

pub binds : (e : Untyped) → IsTakenFrom (listed folded (expr_of e)) (bound e)
binds e = (bound_made e).expr

pub test_binds : (e : Untyped) → IsTakenFrom (listed_in_test folded (test_of e)) (bound e)
test_binds e = (bound_made e).test
