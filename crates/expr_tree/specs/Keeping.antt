-- When a rewriting keeps what trees mean.
use Rattle.std.specs.Prelude.{◌≡◌, ℕ, Bool, true, false, ◌&&◌, List, map, Option, unwrap_or, Ok}
use Rattle.std.specs.List.{list_all}
use Rattle.affine_rows.specs.declared.quasi.Quasi.{Quasi}
use Rattle.affine_rows.specs.Forms.{form_at}
use Rattle.expr_tree.specs.declared.tree.Node.{Node, fold-Node, out-Node}
use Rattle.expr_tree.specs.declared.tree.Node.TheOpen.{Node-F, Test-F, Expr-F}
use Rattle.expr_tree.specs.declared.tree.Node.TheVariants as node
use Rattle.expr_tree.specs.declared.tree.Test.{Test, fold-Test}
use Rattle.expr_tree.specs.declared.tree.Expr.{Expr, fold-Expr}
use Rattle.expr_tree.specs.Scenes.{Scene}
use Rattle.expr_tree.specs.Meaning.{World, meaning_of, meaning_of_node, meaning_of_test}
use Rattle.expr_tree.specs.Rewritten.{Rules, tree_of}

-- which leaves, which forms of tests and which lists of inames trees are made of
pub record Parts : Type 0 where
  pub leaf : Node → Bool
  pub form : Quasi → Bool
  pub over : List ℕ → Bool

-- One node, with the answer for each child in its place.
abbrev pub parts_of_node : Parts → Node-F Bool Bool Bool → Bool
parts_of_node p (Node-F.Literal n) = p.leaf (node.Literal n)
parts_of_node p (Node-F.Leaf form) = p.leaf (node.Leaf form)
parts_of_node p (Node-F.Read cell place) = p.leaf (node.Read cell place)
parts_of_node p (Node-F.Call rule arguments) = p.leaf (node.Call rule arguments)
parts_of_node p (Node-F.Neg a) = a
parts_of_node p (Node-F.Inv a) = a
parts_of_node p (Node-F.Shl a by) = a
parts_of_node p (Node-F.Shr a by) = a
parts_of_node p (Node-F.Bin op a b) = a && b
parts_of_node p (Node-F.Pick t a b) = t && (a && b)
parts_of_node p (Node-F.Cast kind a) = a
parts_of_node p (Node-F.Fold op inames a) = p.over inames && a

-- One test, likewise.
abbrev pub parts_of_test : Parts → Test-F Bool Bool Bool → Bool
parts_of_test p (Test-F.Words rel a b) = a && b
parts_of_test p (Test-F.Index rel a b) = p.form a && p.form b
parts_of_test p (Test-F.All a b) = a && b
parts_of_test p (Test-F.Any a b) = a && b
parts_of_test p (Test-F.Not a) = a

abbrev pub parts_of_expr : Expr-F Bool Bool Bool → Bool
parts_of_expr e = e.node

-- whether the tree is made of such parts alone
abbrev pub node_is_made_of : Parts → Node → Bool
node_is_made_of p = fold-Node Bool Bool Bool (parts_of_node p) (parts_of_test p) parts_of_expr

abbrev pub test_is_made_of : Parts → Test → Bool
test_is_made_of p = fold-Test Bool Bool Bool (parts_of_node p) (parts_of_test p) parts_of_expr

abbrev pub is_made_of : Parts → Expr → Bool
is_made_of p = fold-Expr Bool Bool Bool (parts_of_node p) (parts_of_test p) parts_of_expr

-- all leaves, forms and lists of inames
abbrev pub is_leaf_layer : Node-F Node Test Expr → Bool
is_leaf_layer (Node-F.Literal n) = true
is_leaf_layer (Node-F.Leaf form) = true
is_leaf_layer (Node-F.Read cell place) = true
is_leaf_layer (Node-F.Call rule arguments) = true
is_leaf_layer _ = false

abbrev pub all_parts : Parts
all_parts = record { leaf = λ n. is_leaf_layer (out-Node n); form = λ q. true; over = λ inames. true }

-- What is put for a part means in the new world at each scene that counts what the part means in the old world at the scene that `back`
-- gives, and the old points there are the scenes that `back` gives for the new points. Parts that the rewriting refuses do not matter.
pub record Keeps (r : Rules) (p : Parts) (old new : World) (counts : Scene → Bool) (back : Scene → Scene) : Type 0 where
  pub leaf : (n : Node) (put : Option Expr) (at : Scene) → p.leaf n ≡ true → r.leaf n ≡ Ok put → counts at ≡ true
      → meaning_of new (unwrap_or put (tree_of n)) at ≡ meaning_of_node old n (back at)
  pub form : (q : Quasi) (put : Option Quasi) (at : Scene) → p.form q ≡ true → r.form q ≡ Ok put → counts at ≡ true
      → form_at at.env (unwrap_or put q) ≡ form_at (back at).env q
  pub points : (inames : List ℕ) (put : Option (List ℕ)) (at : Scene) → p.over inames ≡ true → r.over inames ≡ Ok put → counts at ≡ true
      → map back (new.points (unwrap_or put inames) at) ≡ old.points inames (back at)
  pub within : (inames : List ℕ) (put : Option (List ℕ)) (at : Scene) → p.over inames ≡ true → r.over inames ≡ Ok put → counts at ≡ true
      → list_all counts (new.points (unwrap_or put inames) at) ≡ true

-- The new tree means what the old one means, wherever the rewriting keeps what the parts of the old one mean.
abbrev pub KeepsTheValue : Rules → Expr → Expr → Type 0
KeepsTheValue r old_tree new_tree = (p : Parts) (old new : World) (counts : Scene → Bool) (back : Scene → Scene) → Keeps r p old new counts back
    → is_made_of p old_tree ≡ true → (at : Scene) → counts at ≡ true → meaning_of new new_tree at ≡ meaning_of old old_tree (back at)

abbrev pub KeepsTheTest : Rules → Test → Test → Type 0
KeepsTheTest r old_test new_test = (p : Parts) (old new : World) (counts : Scene → Bool) (back : Scene → Scene) → Keeps r p old new counts back
    → test_is_made_of p old_test ≡ true → (at : Scene) → counts at ≡ true → meaning_of_test new new_test at ≡ meaning_of_test old old_test (back at)
