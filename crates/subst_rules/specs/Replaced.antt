-- Uses of rules replaced by the rules' bodies, one depth at a time, where forms are within their limits.
use Rattle.std.specs.Prelude.{ℕ, zero, suc, Bool, true, false, List, map, slice_get, Option, Some, None, Result, Ok, Err}
use Rattle.std.specs.List.{list_all}
use Rattle.affine_rows.specs.declared.quasi.Quasi.{Quasi}
use Rattle.expr_tree.specs.declared.build.ExprFault.{ExprFault}
use Rattle.expr_tree.specs.declared.build.ExprFault.TheVariants.{Limit}
use Rattle.expr_tree.specs.declared.tree.Node.{Node, out-Node}
use Rattle.expr_tree.specs.declared.tree.Node.TheOpen.{Node-F}
use Rattle.expr_tree.specs.declared.tree.Node.TheVariants as node
use Rattle.expr_tree.specs.declared.tree.Test.{Test}
use Rattle.expr_tree.specs.declared.tree.Expr.{Expr}
use Rattle.expr_tree.specs.Rewritten.{Rules, Outcome, tree_of, first_of, outcome_of, outcome_of_test}
use Rattle.expr_tree.specs.Keeping.{Parts, is_leaf_layer}
use Rattle.quasi_forms.specs.Collected.{put_form}
use Rattle.kernel_ir.specs.declared.kernel.SubstRule.{SubstRule}
use Rattle.quasi_forms.specs.Fits.{fits}

-- the one, where the test holds
abbrev pub within : {T : Type 0} → Bool → T → Result T ExprFault
within true t = Ok t
within false t = Err Limit

abbrev pub put_layer : List ℕ → List Quasi → Node-F Node Test Expr → Result (Option Expr) ExprFault
put_layer vs fs (Node-F.Leaf q) = within (fits vs fs q) (Some (tree_of (node.Leaf (put_form vs fs q))))
put_layer vs fs (Node-F.Read cell place) = within (list_all (fits vs fs) place) (Some (tree_of (node.Read cell (map (put_form vs fs) place))))
put_layer vs fs (Node-F.Call rule arguments) = within (list_all (fits vs fs) arguments) (Some (tree_of (node.Call rule (map (put_form vs fs) arguments))))
put_layer vs fs _ = Ok None

-- forms put in for variables, where all that come of it are within their limits
abbrev pub putting_within : List ℕ → List Quasi → Rules
putting_within vs fs = record {
  leaf = λ n. put_layer vs fs (out-Node n);
  form = λ q. within (fits vs fs q) (Some (put_form vs fs q));
  over = λ inames. Ok None;
}

-- what comes of a tree, as an answer
abbrev pub answer : Option ExprFault → Expr → Result (Option Expr) ExprFault
answer None e = Ok (Some e)
answer (Some f) e = Err f

abbrev pub answer_of : Outcome Expr → Result (Option Expr) ExprFault
answer_of o = answer o.refusal o.new

-- the rule's body with the arguments in the places of the parameters; the uses in it stay
abbrev pub body_with : Option SubstRule → List Quasi → Result (Option Expr) ExprFault
body_with None arguments = Ok None
body_with (Some r) arguments = answer_of (outcome_of (putting_within r.params arguments) r.body)

abbrev pub use_layer : List SubstRule → Node-F Node Test Expr → Result (Option Expr) ExprFault
use_layer rules (Node-F.Call rule arguments) = body_with (slice_get rules rule) arguments
use_layer rules _ = Ok None

-- each use replaced, those in the bodies not
abbrev pub replacing : List SubstRule → Rules
replacing rules = record { leaf = λ n. use_layer rules (out-Node n); form = λ q. Ok None; over = λ inames. Ok None }

-- the first refusal, where uses are replaced one depth after the other
abbrev pub refusal_to : List SubstRule → ℕ → Expr → Option ExprFault
refusal_to rules zero e = None
refusal_to rules (suc n) e = first_of (outcome_of (replacing rules) e).refusal (refusal_to rules n (outcome_of (replacing rules) e).new)

abbrev pub test_refusal_to : List SubstRule → ℕ → Test → Option ExprFault
test_refusal_to rules zero t = None
test_refusal_to rules (suc n) t = first_of (outcome_of_test (replacing rules) t).refusal (test_refusal_to rules n (outcome_of_test (replacing rules) t).new)

-- no uses of rules
abbrev pub is_no_use : Node-F Node Test Expr → Bool
is_no_use (Node-F.Call rule arguments) = false
is_no_use _ = true

abbrev pub use_free : Parts
use_free = record { leaf = λ n. is_no_use (out-Node n); form = λ q. true; over = λ inames. true }

-- a node without parts
abbrev pub is_leaf : Node → Bool
is_leaf n = is_leaf_layer (out-Node n)
