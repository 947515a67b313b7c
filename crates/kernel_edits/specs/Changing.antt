-- Kernels in which forms stand in the places of inames, and other inames in their places in lists.
use Rattle.std.specs.Prelude.{ℕ, Bool, true, false, List, [], ◌∷◌, map, flat_map, nat_eq, if◌then◌else◌, Option, Some, None, Result, Ok, Err}
use Rattle.std.specs.List.{list_all, list_any}
use Rattle.affine_rows.specs.declared.quasi.Quasi.{Quasi}
use Rattle.expr_tree.specs.declared.build.ExprFault.{ExprFault}
use Rattle.expr_tree.specs.declared.build.ExprFault.TheVariants.{Limit}
use Rattle.expr_tree.specs.declared.tree.Node.{Node, out-Node}
use Rattle.expr_tree.specs.declared.tree.Node.TheOpen.{Node-F}
use Rattle.expr_tree.specs.declared.tree.Node.TheVariants as node
use Rattle.expr_tree.specs.declared.tree.Test.{Test}
use Rattle.expr_tree.specs.declared.tree.Expr.{Expr}
use Rattle.expr_tree.specs.Rewritten.{Rules, tree_of}
use Rattle.expr_tree.specs.Keeping.{is_leaf_layer}
use Rattle.expr_tree.specs.Scenes.{is_among, mentions_one}
use Rattle.quasi_forms.specs.Collected.{put_form}
use Rattle.quasi_forms.specs.Fits.{fits}

-- a node without parts
abbrev pub is_leaf : Node → Bool
is_leaf n = is_leaf_layer (out-Node n)

-- the answer, where all forms are within their limits
abbrev pub within : {T : Type 0} → Bool → T → Result T ExprFault
within true t = Ok t
within false t = Err Limit

-- the form with others in the places of the variables, where it mentions one
abbrev pub changed_form : List ℕ → List Quasi → Quasi → Quasi
changed_form vs fs q = if mentions_one vs q then put_form vs fs q else q

-- then all that come of it are within their limits
abbrev pub changes_within : List ℕ → List Quasi → Quasi → Bool
changes_within vs fs q = if mentions_one vs q then fits vs fs q else true

abbrev pub form_answer : List ℕ → List Quasi → Quasi → Result (Option Quasi) ExprFault
form_answer vs fs q = if mentions_one vs q then within (fits vs fs q) (Some (put_form vs fs q)) else Ok None

abbrev pub leaf_answer : List ℕ → List Quasi → Quasi → Result (Option Expr) ExprFault
leaf_answer vs fs q = if mentions_one vs q then within (fits vs fs q) (Some (tree_of (node.Leaf (put_form vs fs q)))) else Ok None

-- something over the new forms, if one of them is new
abbrev pub forms_answer : List ℕ → List Quasi → (List Quasi → Node) → List Quasi → Result (Option Expr) ExprFault
forms_answer vs fs whole qs =
    if list_any (mentions_one vs) qs then within (list_all (changes_within vs fs) qs) (Some (tree_of (whole (map (changed_form vs fs) qs)))) else Ok None

abbrev pub change_layer : List ℕ → List Quasi → Node-F Node Test Expr → Result (Option Expr) ExprFault
change_layer vs fs (Node-F.Leaf q) = leaf_answer vs fs q
change_layer vs fs (Node-F.Read cell place) = forms_answer vs fs (node.Read cell) place
change_layer vs fs (Node-F.Call rule arguments) = forms_answer vs fs (node.Call rule) arguments
change_layer vs fs _ = Ok None

-- what stands in the place of an iname: the new ones for the first of the variables, and nothing for the others
abbrev pub changed_at : ℕ → List ℕ → List ℕ → ℕ → List ℕ
changed_at first vs put u = if nat_eq u first then put else (if is_among vs u then [] else (u ∷ []))

abbrev pub changed_list : ℕ → List ℕ → List ℕ → List ℕ → List ℕ
changed_list first vs put us = flat_map (changed_at first vs put) us

abbrev pub over_answer : ℕ → List ℕ → List ℕ → List ℕ → Option (List ℕ)
over_answer first vs put us = if is_among us first then Some (changed_list first vs put us) else None

-- the rewriting that makes the change, and makes no node anew where nothing changes
abbrev pub changing : List ℕ → List Quasi → ℕ → List ℕ → Rules
changing vs fs first put = record {
  leaf = λ n. change_layer vs fs (out-Node n);
  form = form_answer vs fs;
  over = λ us. Ok (over_answer first vs put us);
}
