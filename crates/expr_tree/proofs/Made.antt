-- What a fold makes of an expression or a test that is made by its root.
use Rattle.std.specs.Prelude.{◌≡◌, ℕ, List}
use Rattle.std.proofs.Common.{rules}
use Rattle.wrap_words.specs.declared.kind.Kind.{Kind}
use Rattle.affine_rows.specs.declared.quasi.Quasi.{Quasi}
use Rattle.expr_tree.specs.declared.tree.Op.{Op}
use Rattle.expr_tree.specs.declared.tree.Rel.{Rel}
use Rattle.expr_tree.specs.declared.tree.Cell.{Cell}
use Rattle.expr_tree.specs.declared.tree.Node.{the_lemmas}
use Rattle.expr_tree.specs.declared.tree.Node.TheOpen.{Node-F, Test-F}
use Rattle.expr_tree.specs.declared.tree.Node.TheVariants as node
use Rattle.expr_tree.specs.declared.tree.Test.{Test, fold-Test}
use Rattle.expr_tree.specs.declared.tree.Test.TheVariants as test
use Rattle.expr_tree.specs.declared.tree.Expr.{Expr, fold-Expr}
use Rattle.expr_tree.specs.Rewritten.{tree_of}

module _ (A T : Type 0) (nd : Node-F A T A → A) (ts : Test-F A T A → T) where
  abbrev pub of_expr : Expr → A
  of_expr = fold-Expr A T A nd ts (λ e. e.node)

  abbrev pub of_test : Test → T
  of_test = fold-Test A T A nd ts (λ e. e.node)

  pub made-Literal : (n : ℕ) → of_expr (tree_of (node.Literal n)) ≡ nd (Node-F.Literal n)
  made-Literal n = search (rules, the_lemmas)

  pub made-Leaf : (q : Quasi) → of_expr (tree_of (node.Leaf q)) ≡ nd (Node-F.Leaf q)
  made-Leaf q = search (rules, the_lemmas)

  pub made-Read : (cell : Cell) (place : List Quasi) → of_expr (tree_of (node.Read cell place)) ≡ nd (Node-F.Read cell place)
  made-Read cell place = search (rules, the_lemmas)

  pub made-Call : (rule : ℕ) (arguments : List Quasi) → of_expr (tree_of (node.Call rule arguments)) ≡ nd (Node-F.Call rule arguments)
  made-Call rule arguments = search (rules, the_lemmas)

  pub made-Neg : (a : Expr) → of_expr (tree_of (node.Neg a)) ≡ nd (Node-F.Neg (of_expr a))
  made-Neg a = search (rules, the_lemmas)

  pub made-Inv : (a : Expr) → of_expr (tree_of (node.Inv a)) ≡ nd (Node-F.Inv (of_expr a))
  made-Inv a = search (rules, the_lemmas)

  pub made-Shl : (a : Expr) (by : ℕ) → of_expr (tree_of (node.Shl a by)) ≡ nd (Node-F.Shl (of_expr a) by)
  made-Shl a by = search (rules, the_lemmas)

  pub made-Shr : (a : Expr) (by : ℕ) → of_expr (tree_of (node.Shr a by)) ≡ nd (Node-F.Shr (of_expr a) by)
  made-Shr a by = search (rules, the_lemmas)

  pub made-Bin : (op : Op) (a b : Expr) → of_expr (tree_of (node.Bin op a b)) ≡ nd (Node-F.Bin op (of_expr a) (of_expr b))
  made-Bin op a b = search (rules, the_lemmas)

  pub made-Pick : (t : Test) (a b : Expr) → of_expr (tree_of (node.Pick t a b)) ≡ nd (Node-F.Pick (of_test t) (of_expr a) (of_expr b))
  made-Pick t a b = search (rules, the_lemmas)

  pub made-Cast : (kind : Kind) (a : Expr) → of_expr (tree_of (node.Cast kind a)) ≡ nd (Node-F.Cast kind (of_expr a))
  made-Cast kind a = search (rules, the_lemmas)

  pub made-Fold : (op : Op) (inames : List ℕ) (a : Expr) → of_expr (tree_of (node.Fold op inames a)) ≡ nd (Node-F.Fold op inames (of_expr a))
  made-Fold op inames a = search (rules, the_lemmas)

  pub made-Words : (rel : Rel) (a b : Expr) → of_test (test.Words rel a b) ≡ ts (Test-F.Words rel (of_expr a) (of_expr b))
  made-Words rel a b = search (rules, the_lemmas)

  pub made-Index : (rel : Rel) (a b : Quasi) → of_test (test.Index rel a b) ≡ ts (Test-F.Index rel a b)
  made-Index rel a b = search (rules, the_lemmas)

  pub made-All : (p q : Test) → of_test (test.All p q) ≡ ts (Test-F.All (of_test p) (of_test q))
  made-All p q = search (rules, the_lemmas)

  pub made-Any : (p q : Test) → of_test (test.Any p q) ≡ ts (Test-F.Any (of_test p) (of_test q))
  made-Any p q = search (rules, the_lemmas)

  pub made-Not : (p : Test) → of_test (test.Not p) ≡ ts (Test-F.Not (of_test p))
  made-Not p = search (rules, the_lemmas)
