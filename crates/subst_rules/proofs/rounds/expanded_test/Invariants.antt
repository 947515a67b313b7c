use Rattle.std.proofs.Common.{◌≡◌, ◌-◌, length}
use Rattle.expr_tree.specs.Rewritten.{rewritten_test}
use Rattle.kernel_ir.specs.Expanded.{expanding_all, expanding_to}
use Rattle.subst_rules.specs.Replaced.{test_refusal_to}
use Rattle.subst_rules.proofs.rounds.expanded_test.Given as goal

abbrev pub invariant-loop-round : goal.invariant-loop-round
invariant-loop-round l = record {
  test : rewritten_test (expanding_to l.kernel (length l.kernel.rules - l._round)) l.made ≡ rewritten_test (expanding_all l.kernel) l.test;
  refusal : test_refusal_to l.kernel.rules (length l.kernel.rules - l._round) l.made ≡ test_refusal_to l.kernel.rules (length l.kernel.rules) l.test;
}
