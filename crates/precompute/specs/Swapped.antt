-- Uses replaced by reads of a temporary.
use Rattle.std.specs.Prelude.{ℕ, ℤ, neg_ℤ, pos, Bool, true, false, ◌&&◌, nat_eq, if◌then◌else◌, List, [], ◌∷◌, Option, Some, None, Result, Ok, Err}
use Rattle.affine_rows.specs.declared.quasi.Quasi.{Quasi}
use Rattle.expr_tree.specs.declared.build.ExprFault.{ExprFault}
use Rattle.expr_tree.specs.declared.tree.Cell.{Cell}
use Rattle.expr_tree.specs.declared.tree.Cell.TheVariants as cell
use Rattle.expr_tree.specs.declared.tree.Node.{Node, out-Node}
use Rattle.expr_tree.specs.declared.tree.Node.TheOpen.{Node-F}
use Rattle.expr_tree.specs.declared.tree.Node.TheVariants as node
use Rattle.expr_tree.specs.declared.tree.Test.{Test}
use Rattle.expr_tree.specs.declared.tree.Expr.{Expr}
use Rattle.expr_tree.specs.Rewritten.{Rules, tree_of}
use Rattle.quasi_forms.specs.Collected.{sum_form}
use Rattle.quasi_forms.specs.Fits.{fits_form}
use Rattle.kernel_edits.specs.Changing.{within}
use Rattle.precompute.specs.declared.uses.Source.{Source}
use Rattle.precompute.specs.declared.uses.Source.TheVariants as source

-- a form less another one
abbrev pub lowered : Quasi → Quasi → Quasi
lowered q origin = sum_form q (neg_ℤ (pos 1)) origin

-- each place less its origin, for places that have one
abbrev pub lowered_places : List Quasi → List Quasi → List Quasi
lowered_places [] os = []
lowered_places (q ∷ qs) [] = []
lowered_places (q ∷ qs) (o ∷ os) = lowered q o ∷ lowered_places qs os

-- then all are within their limits
abbrev pub are_forms : List Quasi → List Quasi → Bool
are_forms [] os = true
are_forms (q ∷ qs) [] = true
are_forms (q ∷ qs) (o ∷ os) = fits_form (lowered q o) && are_forms qs os

abbrev pub is_read : Source → Cell → Bool
is_read (source.Array n) (cell.Array m) = nat_eq n m
is_read (source.Array n) (cell.Temp m) = false
is_read (source.Rule n) c = false

abbrev pub is_rule : Source → ℕ → Bool
is_rule (source.Rule n) m = nat_eq n m
is_rule (source.Array n) m = false

-- the read of the temporary for a use at a place
abbrev pub read_of : ℕ → List Quasi → List Quasi → Result (Option Expr) ExprFault
read_of temp origins place = within (are_forms place origins) (Some (tree_of (node.Read (cell.Temp temp) (lowered_places place origins))))

abbrev pub swap_layer : Source → ℕ → List Quasi → Node-F Node Test Expr → Result (Option Expr) ExprFault
swap_layer s temp origins (Node-F.Read c place) = if is_read s c then read_of temp origins place else Ok None
swap_layer s temp origins (Node-F.Call rule place) = if is_rule s rule then read_of temp origins place else Ok None
swap_layer s temp origins _ = Ok None

-- the rewriting that puts a read of the temporary for each use
abbrev pub swapping : Source → ℕ → List Quasi → Rules
swapping s temp origins = record {
  leaf = λ n. swap_layer s temp origins (out-Node n);
  form = λ q. Ok None;
  over = λ us. Ok None;
}
