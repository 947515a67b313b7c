-- What a rewriting makes of a tree: the new tree, what is replaced, how many nodes are made anew, and the first refusal.
use Rattle.std.specs.Prelude.{ℕ, ◌+◌, Bool, false, ◌||◌, nat_lt, if◌then◌else◌, List, Option, Some, None, is_some, unwrap_or, Result, Ok, Err}
use Rattle.affine_rows.specs.declared.quasi.Quasi.{Quasi}
use Rattle.expr_tree.specs.declared.build.ExprFault.{ExprFault}
use Rattle.expr_tree.specs.declared.build.ExprFault.TheVariants.{Depth}
use Rattle.expr_tree.specs.declared.tree.Node.{Node, fold-Node}
use Rattle.expr_tree.specs.declared.tree.Node.TheOpen.{Node-F, Test-F, Expr-F}
use Rattle.expr_tree.specs.declared.tree.Node.TheVariants as node
use Rattle.expr_tree.specs.declared.tree.Test.{Test, fold-Test}
use Rattle.expr_tree.specs.declared.tree.Test.TheVariants as test
use Rattle.expr_tree.specs.declared.tree.Expr.{Expr, fold-Expr}
use Rattle.expr_tree.specs.Depth.{depth_of_node, depth_of_test}

-- What a rewriting answers of parts of a tree, want of memory aside: what it puts for the part, if anything, or a refusal.
pub record Rules : Type 0 where
  pub leaf : Node → Result (Option Expr) ExprFault
  pub form : Quasi → Result (Option Quasi) ExprFault
  pub over : List ℕ → Result (Option (List ℕ)) ExprFault

-- What comes of a part: the part with all replacements, whether there is one in it or below it, the expression nodes that have one
-- below them, or a form or iname list in them, and the first refusal in a walk with parts from left to right before their whole.
pub record Outcome (T : Type 0) : Type 0 where
  pub new : T
  pub changed : Bool
  pub nodes : ℕ
  pub refusal : Option ExprFault

-- the tree of a node
abbrev pub tree_of : Node → Expr
tree_of n = record { node = n }

-- the first refusal of two
abbrev pub first_of : Option ExprFault → Option ExprFault → Option ExprFault
first_of None o = o
first_of (Some f) o = Some f

-- nothing is deeper than 64
abbrev pub too_deep : ℕ → Option ExprFault
too_deep depth = if nat_lt 64 depth then Some Depth else None

-- a part of which the rewriting is asked
abbrev pub answered : {T : Type 0} → Result (Option T) ExprFault → T → Outcome T
answered (Ok put) old = record { new = unwrap_or put old; changed = is_some put; nodes = 0; refusal = None }
answered (Err f) old = record { new = old; changed = false; nodes = 0; refusal = Some f }

-- something over one part, and over two
abbrev pub over_one : {A T : Type 0} → (A → T) → Outcome A → Outcome T
over_one whole a = record { new = whole a.new; changed = a.changed; nodes = a.nodes; refusal = a.refusal }

abbrev pub over_two : {A B T : Type 0} → (A → B → T) → Outcome A → Outcome B → Outcome T
over_two whole a b = record { new = whole a.new b.new; changed = a.changed || b.changed; nodes = a.nodes + b.nodes; refusal = first_of a.refusal b.refusal }

-- a node over its parts: made anew, and refused where it gets too deep, if anything in it or below it is replaced
abbrev pub made_tree : Outcome Node → Outcome Expr
made_tree o = record {
  new = tree_of o.new;
  changed = o.changed;
  nodes = if o.changed then o.nodes + 1 else o.nodes;
  refusal = first_of o.refusal (if o.changed then too_deep (depth_of_node o.new) else None);
}

-- a test over its parts likewise, but that it is no expression node
abbrev pub made_test : Outcome Test → Outcome Test
made_test o = record o { refusal = first_of o.refusal (if o.changed then too_deep (depth_of_test o.new) else None) }

-- One node, with the outcome of each child in its place.
abbrev pub node_outcome : Rules → Node-F (Outcome Expr) (Outcome Test) (Outcome Expr) → Outcome Expr
node_outcome r (Node-F.Literal n) = answered (r.leaf (node.Literal n)) (tree_of (node.Literal n))
node_outcome r (Node-F.Leaf form) = answered (r.leaf (node.Leaf form)) (tree_of (node.Leaf form))
node_outcome r (Node-F.Read cell place) = answered (r.leaf (node.Read cell place)) (tree_of (node.Read cell place))
node_outcome r (Node-F.Call rule arguments) = answered (r.leaf (node.Call rule arguments)) (tree_of (node.Call rule arguments))
node_outcome r (Node-F.Neg a) = made_tree (over_one node.Neg a)
node_outcome r (Node-F.Inv a) = made_tree (over_one node.Inv a)
node_outcome r (Node-F.Shl a by) = made_tree (over_one (λ x. node.Shl x by) a)
node_outcome r (Node-F.Shr a by) = made_tree (over_one (λ x. node.Shr x by) a)
node_outcome r (Node-F.Bin op a b) = made_tree (over_two (node.Bin op) a b)
node_outcome r (Node-F.Pick t a b) = made_tree (over_two (λ (p : Test) (xy : Expr × Expr). node.Pick p xy.0 xy.1) t (over_two (λ x y. (x, y)) a b))
node_outcome r (Node-F.Cast kind a) = made_tree (over_one (node.Cast kind) a)
node_outcome r (Node-F.Fold op inames a) = made_tree (over_two (λ x is. node.Fold op is x) a (answered (r.over inames) inames))

-- One test, likewise.
abbrev pub test_outcome : Rules → Test-F (Outcome Expr) (Outcome Test) (Outcome Expr) → Outcome Test
test_outcome r (Test-F.Words rel a b) = made_test (over_two (test.Words rel) a b)
test_outcome r (Test-F.Index rel a b) = over_two (test.Index rel) (answered (r.form a) a) (answered (r.form b) b)
test_outcome r (Test-F.All p q) = made_test (over_two test.All p q)
test_outcome r (Test-F.Any p q) = made_test (over_two test.Any p q)
test_outcome r (Test-F.Not p) = made_test (over_one test.Not p)

abbrev pub expr_outcome : Expr-F (Outcome Expr) (Outcome Test) (Outcome Expr) → Outcome Expr
expr_outcome e = e.node

abbrev pub outcome_of_node : Rules → Node → Outcome Expr
outcome_of_node r = fold-Node (Outcome Expr) (Outcome Test) (Outcome Expr) (node_outcome r) (test_outcome r) expr_outcome

abbrev pub outcome_of_test : Rules → Test → Outcome Test
outcome_of_test r = fold-Test (Outcome Expr) (Outcome Test) (Outcome Expr) (node_outcome r) (test_outcome r) expr_outcome

abbrev pub outcome_of : Rules → Expr → Outcome Expr
outcome_of r = fold-Expr (Outcome Expr) (Outcome Test) (Outcome Expr) (node_outcome r) (test_outcome r) expr_outcome

-- the tree with all replacements
abbrev pub rewritten : Rules → Expr → Expr
rewritten r e = (outcome_of r e).new

abbrev pub rewritten_test : Rules → Test → Test
rewritten_test r t = (outcome_of_test r t).new

-- the expression nodes that have a replaced leaf below them, or a replaced form or iname list in them or below them
abbrev pub replaced_above : Rules → Expr → ℕ
replaced_above r e = (outcome_of r e).nodes

abbrev pub replaced_above_in_test : Rules → Test → ℕ
replaced_above_in_test r t = (outcome_of_test r t).nodes

-- the refusal that comes first in a walk of the tree with children from left to right before their node, if there is one
abbrev pub first_refusal : Rules → Expr → Option ExprFault
first_refusal r e = (outcome_of r e).refusal

abbrev pub first_refusal_in_test : Rules → Test → Option ExprFault
first_refusal_in_test r t = (outcome_of_test r t).refusal
