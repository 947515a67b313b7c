-- Expressions in which each use of a rule is replaced by the rule's body at the arguments.
use Rattle.std.specs.Prelude.{ℕ, zero, suc, List, map, length, slice_get, Option, Some, None, Ok}
use Rattle.affine_rows.specs.declared.quasi.Quasi.{Quasi}
use Rattle.expr_tree.specs.declared.tree.Node.{Node, out-Node}
use Rattle.expr_tree.specs.declared.tree.Node.TheOpen.{Node-F}
use Rattle.expr_tree.specs.declared.tree.Node.TheVariants as node
use Rattle.expr_tree.specs.declared.tree.Test.{Test}
use Rattle.expr_tree.specs.declared.tree.Expr.{Expr}
use Rattle.expr_tree.specs.Rewritten.{Rules, tree_of, rewritten, rewritten_test}
use Rattle.quasi_forms.specs.Collected.{put_form}
use Rattle.kernel_ir.specs.declared.kernel.Kernel.{Kernel}
use Rattle.kernel_ir.specs.declared.kernel.SubstRule.{SubstRule}

-- the node with forms put in for variables
abbrev pub put_in_layer : (Quasi → Quasi) → Node-F Node Test Expr → Option Expr
put_in_layer put (Node-F.Leaf form) = Some (tree_of (node.Leaf (put form)))
put_in_layer put (Node-F.Read cell place) = Some (tree_of (node.Read cell (map put place)))
put_in_layer put (Node-F.Call rule arguments) = Some (tree_of (node.Call rule (map put arguments)))
put_in_layer put _ = None

-- the rewriting that puts forms in for variables
abbrev pub putting : List ℕ → List Quasi → Rules
putting vars forms = record {
  leaf = λ n. Ok (put_in_layer (put_form vars forms) (out-Node n));
  form = λ q. Ok (Some (put_form vars forms q));
  over = λ inames. Ok None;
}

-- the rewriting that puts trees for the uses of rules
abbrev pub used_in_layer : (ℕ → List Quasi → Option Expr) → Node-F Node Test Expr → Option Expr
used_in_layer tree_at (Node-F.Call rule arguments) = tree_at rule arguments
used_in_layer tree_at _ = None

abbrev pub expanding : (ℕ → List Quasi → Option Expr) → Rules
expanding tree_at = record { leaf = λ n. Ok (used_in_layer tree_at (out-Node n)); form = λ q. Ok None; over = λ inames. Ok None }

-- a rule's body at the arguments, and then the uses in it replaced, so that no argument is put into the body of another rule
abbrev pub body_at : Rules → Option SubstRule → List Quasi → Option Expr
body_at r None arguments = None
body_at r (Some rule) arguments = Some (rewritten r (rewritten (putting rule.params arguments) rule.body))

-- uses of rules replaced, in bodies to the n-th depth
abbrev pub expanding_to : Kernel → ℕ → Rules
expanding_to K zero = expanding (λ rule arguments. None)
expanding_to K (suc n) = expanding (λ rule arguments. body_at (expanding_to K n) (slice_get K.rules rule) arguments)

-- rules use each other at most as deep as there are rules
abbrev pub expanding_all : Kernel → Rules
expanding_all K = expanding_to K (length K.rules)

abbrev pub expanded : Kernel → Expr → Expr
expanded K = rewritten (expanding_all K)

abbrev pub expanded_test : Kernel → Option Test → Option Test
expanded_test K None = None
expanded_test K (Some t) = Some (rewritten_test (expanding_all K) t)
