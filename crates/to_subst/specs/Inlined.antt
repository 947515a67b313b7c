-- Reads of a temporary replaced by uses of a rule.
use Rattle.std.specs.Prelude.{ℕ, ◌-◌, ◌++◌, ◌∷◌, [], pos, map, nat_eq, nat_lt, if◌then◌else◌, List, Option, Some, None, Result, Ok, Err}
use Rattle.affine_rows.specs.declared.quasi.Quasi.{Quasi}
use Rattle.affine_rows.specs.Forms.{affine}
use Rattle.expr_tree.specs.declared.build.ExprFault.{ExprFault}
use Rattle.expr_tree.specs.declared.tree.Cell.{Cell}
use Rattle.expr_tree.specs.declared.tree.Cell.TheVariants as cell
use Rattle.expr_tree.specs.declared.tree.Node.{Node, out-Node}
use Rattle.expr_tree.specs.declared.tree.Node.TheOpen.{Node-F}
use Rattle.expr_tree.specs.declared.tree.Node.TheVariants as node
use Rattle.expr_tree.specs.declared.tree.Test.{Test}
use Rattle.expr_tree.specs.declared.tree.Expr.{Expr}
use Rattle.expr_tree.specs.Rewritten.{Rules, tree_of}

-- the form of one variable
abbrev pub variable : ℕ → Quasi
variable u = affine (pos 0) ((u, pos 1) ∷ [])

-- what stands for a read of a temporary: a use of the rule, or a read by the number without the one that is gone
abbrev pub put_node : ℕ → ℕ → List ℕ → ℕ → List Quasi → Node
put_node temp rule remaining t place =
    if nat_eq t temp then node.Call rule (place ++ map variable remaining) else node.Read (cell.Temp (t - 1)) place

abbrev pub put_read : ℕ → ℕ → List ℕ → Cell → List Quasi → Option Expr
put_read temp rule remaining (cell.Temp t) place = if nat_lt t temp then None else Some (tree_of (put_node temp rule remaining t place))
put_read temp rule remaining (cell.Array n) place = None

abbrev pub inlining_layer : ℕ → ℕ → List ℕ → Node-F Node Test Expr → Result (Option Expr) ExprFault
inlining_layer temp rule remaining (Node-F.Read c place) = Ok (put_read temp rule remaining c place)
inlining_layer temp rule remaining _ = Ok None

-- the rewriting that puts a use of the rule for each read of the temporary
abbrev pub inlining : ℕ → ℕ → List ℕ → Rules
inlining temp rule remaining = record { leaf = λ n. inlining_layer temp rule remaining (out-Node n); form = λ q. Ok None; over = λ us. Ok None }
