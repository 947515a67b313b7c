-- Uses replaced by bodies.
use Rattle.std.specs.Prelude.{◌≡◌, ℕ, List, slice_get, Option, Some, Err}
use Rattle.std.proofs.Common.{sym, ap, ◌∙◌}
use Rattle.affine_rows.specs.declared.quasi.Quasi.{Quasi}
use Rattle.expr_tree.specs.declared.build.ExprFault.{ExprFault}
use Rattle.expr_tree.specs.declared.tree.Node.{Node, out-Node}
use Rattle.expr_tree.specs.declared.tree.Node.TheVariants as node
use Rattle.expr_tree.specs.declared.tree.Expr.{Expr}
use Rattle.expr_tree.specs.Rewritten.{Outcome}
use Rattle.kernel_ir.specs.declared.kernel.SubstRule.{SubstRule}
use Rattle.subst_rules.specs.Replaced.{answer, answer_of, body_with, use_layer}

pub answer_refused : (o : Outcome Expr) (f : ExprFault) → o.refusal ≡ Some f → answer_of o ≡ Err f
answer_refused o f is = ap (λ (r : Option ExprFault). answer r o.new) is

-- what is put for a use
pub use_is : (rules : List SubstRule) (n : Node) (rule : ℕ) (arguments : List Quasi) (o : Option SubstRule) → n ≡ node.Call rule arguments → o ≡ slice_get rules rule → use_layer rules (out-Node n) ≡ body_with o arguments
use_is rules n rule arguments o is at = ap (λ (m : Node). use_layer rules (out-Node m)) is ∙ (ap (use_layer rules) (node.outs-Call rule arguments) ∙ ap (λ (r : Option SubstRule). body_with r arguments) (sym at))
