-- What each sort of node means, one equation a variant.
use Rattle.std.specs.Prelude.{◌≡◌, ℕ, List}
use Rattle.std.proofs.Common.{rules}
use Rattle.wrap_words.specs.declared.kind.Kind.{Kind}
use Rattle.affine_rows.specs.declared.quasi.Quasi.{Quasi}
use Rattle.expr_tree.specs.declared.tree.Op.{Op}
use Rattle.expr_tree.specs.declared.tree.Rel.{Rel}
use Rattle.expr_tree.specs.declared.tree.Cell.{Cell}
use Rattle.expr_tree.specs.declared.tree.Expr.{Expr}
use Rattle.expr_tree.specs.declared.tree.Test.{Test}
use Rattle.expr_tree.specs.declared.tree.Test.TheVariants as test
use Rattle.expr_tree.specs.declared.tree.Node.{Node, the_lemmas}
use Rattle.expr_tree.specs.declared.tree.Node.TheVariants as node
use Rattle.expr_tree.specs.declared.tree.Node.TheOpen.{Node-F, Test-F}
use Rattle.expr_tree.specs.Meaning.{World, node_meaning, test_meaning, meaning_of, meaning_of_node, meaning_of_test}

pub meaning-tree : (w : World) (m : Node) → meaning_of w (record { node = m }) ≡ meaning_of_node w m
meaning-tree w m = search (rules, the_lemmas)

pub meaning-Literal : (w : World) (n : ℕ) → meaning_of_node w (node.Literal n) ≡ node_meaning w (Node-F.Literal n)
meaning-Literal w n = search (rules, the_lemmas)

pub meaning-Leaf : (w : World) (form : Quasi) → meaning_of_node w (node.Leaf form) ≡ node_meaning w (Node-F.Leaf form)
meaning-Leaf w form = search (rules, the_lemmas)

pub meaning-Read : (w : World) (cell : Cell) (place : List Quasi) → meaning_of_node w (node.Read cell place) ≡ node_meaning w (Node-F.Read cell place)
meaning-Read w cell place = search (rules, the_lemmas)

pub meaning-Call : (w : World) (rule : ℕ) (arguments : List Quasi) → meaning_of_node w (node.Call rule arguments) ≡ node_meaning w (Node-F.Call rule arguments)
meaning-Call w rule arguments = search (rules, the_lemmas)

pub meaning-Neg : (w : World) (a : Expr) → meaning_of_node w (node.Neg a) ≡ node_meaning w (Node-F.Neg (meaning_of w a))
meaning-Neg w a = search (rules, the_lemmas)

pub meaning-Inv : (w : World) (a : Expr) → meaning_of_node w (node.Inv a) ≡ node_meaning w (Node-F.Inv (meaning_of w a))
meaning-Inv w a = search (rules, the_lemmas)

pub meaning-Shl : (w : World) (a : Expr) (by : ℕ) → meaning_of_node w (node.Shl a by) ≡ node_meaning w (Node-F.Shl (meaning_of w a) by)
meaning-Shl w a by = search (rules, the_lemmas)

pub meaning-Shr : (w : World) (a : Expr) (by : ℕ) → meaning_of_node w (node.Shr a by) ≡ node_meaning w (Node-F.Shr (meaning_of w a) by)
meaning-Shr w a by = search (rules, the_lemmas)

pub meaning-Bin : (w : World) (op : Op) (a b : Expr) → meaning_of_node w (node.Bin op a b) ≡ node_meaning w (Node-F.Bin op (meaning_of w a) (meaning_of w b))
meaning-Bin w op a b = search (rules, the_lemmas)

pub meaning-Pick : (w : World) (t : Test) (a b : Expr) → meaning_of_node w (node.Pick t a b) ≡ node_meaning w (Node-F.Pick (meaning_of_test w t) (meaning_of w a) (meaning_of w b))
meaning-Pick w t a b = search (rules, the_lemmas)

pub meaning-Cast : (w : World) (kind : Kind) (a : Expr) → meaning_of_node w (node.Cast kind a) ≡ node_meaning w (Node-F.Cast kind (meaning_of w a))
meaning-Cast w kind a = search (rules, the_lemmas)

pub meaning-Fold : (w : World) (op : Op) (inames : List ℕ) (a : Expr) → meaning_of_node w (node.Fold op inames a) ≡ node_meaning w (Node-F.Fold op inames (meaning_of w a))
meaning-Fold w op inames a = search (rules, the_lemmas)

pub meaning-Words : (w : World) (rel : Rel) (a b : Expr) → meaning_of_test w (test.Words rel a b) ≡ test_meaning w (Test-F.Words rel (meaning_of w a) (meaning_of w b))
meaning-Words w rel a b = search (rules, the_lemmas)

pub meaning-Index : (w : World) (rel : Rel) (a b : Quasi) → meaning_of_test w (test.Index rel a b) ≡ test_meaning w (Test-F.Index rel a b)
meaning-Index w rel a b = search (rules, the_lemmas)

pub meaning-All : (w : World) (p q : Test) → meaning_of_test w (test.All p q) ≡ test_meaning w (Test-F.All (meaning_of_test w p) (meaning_of_test w q))
meaning-All w p q = search (rules, the_lemmas)

pub meaning-Any : (w : World) (p q : Test) → meaning_of_test w (test.Any p q) ≡ test_meaning w (Test-F.Any (meaning_of_test w p) (meaning_of_test w q))
meaning-Any w p q = search (rules, the_lemmas)

pub meaning-Not : (w : World) (p : Test) → meaning_of_test w (test.Not p) ≡ test_meaning w (Test-F.Not (meaning_of_test w p))
meaning-Not w p = search (rules, the_lemmas)
