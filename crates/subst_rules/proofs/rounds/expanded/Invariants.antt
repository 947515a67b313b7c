use Rattle.std.proofs.Common.{◌≡◌, ◌-◌, length}
use Rattle.expr_tree.specs.Rewritten.{rewritten}
use Rattle.kernel_ir.specs.Expanded.{expanded, expanding_to}
use Rattle.subst_rules.specs.Replaced.{refusal_to}
use Rattle.subst_rules.proofs.rounds.expanded.Given as goal

abbrev pub invariant-loop-round : goal.invariant-loop-round
invariant-loop-round l = record {
  tree : rewritten (expanding_to l.kernel (length l.kernel.rules - l._round)) l.tree ≡ expanded l.kernel l.expr;
  refusal : refusal_to l.kernel.rules (length l.kernel.rules - l._round) l.tree ≡ refusal_to l.kernel.rules (length l.kernel.rules) l.expr;
}
