use Rattle.std.proofs.Common.{ℕ, ◌-◌, ◌<◌, ◌≤◌, ◌∙◌, sym, subst, length}
use Rattle.expr_tree.specs.Rewritten.{rewritten_test}
use Rattle.kernel_ir.specs.Expanded.{expanding_all}
use Rattle.subst_rules.specs.Replaced.{test_refusal_to}
use Rattle.subst_rules.proofs.Expanding.{free_test_is, free_test_fits, test_next, test_refusal_next, test_refusal_here, last_test, last_test_refusal}
use Rattle.subst_rules.proofs.rounds.expanded_test.Goals as goal

pub returns-then-settled-clause-test : goal.returns-then-settled-clause-test
returns-then-settled-clause-test c = sym (free_test_is c.args.kernel.now ((length c.args.kernel.now.rules) - c.loop-round._round) c.loop-round.made (sym c.is_use_free_test-settled.ensures ∙ c.if-settled.true)) ∙ c.loop-round.invariant.test

pub returns-then-settled-clause-fits : goal.returns-then-settled-clause-fits
returns-then-settled-clause-fits c = sym c.loop-round.invariant.refusal ∙ free_test_fits c.args.kernel.now.rules ((length c.args.kernel.now.rules) - c.loop-round._round) c.loop-round.made (sym c.is_use_free_test-settled.ensures ∙ c.if-settled.true)

pub returns-in-Err-clause-refused : goal.returns-in-Err-clause-refused
returns-in-Err-clause-refused c known = sym c.loop-round.invariant.refusal ∙ test_refusal_here c.args.kernel.now (length c.args.kernel.now.rules) c.loop-round._round c.loop-round.made c.in-Err.fault (subst (λ (n : ℕ). c.loop-round._round < n) c.len-round-end.ensures c.loop-round-test.true) (c.in-Err.ensures.refused known)

pub loop-round-preserved : goal.loop-round-preserved
loop-round-preserved c = record {
  test = test_next c.args.kernel.now (length c.args.kernel.now.rules) c.loop-round._round c.loop-round.made c.in-Ok.next (rewritten_test (expanding_all c.args.kernel.now) c.args.test.now) (subst (λ (n : ℕ). c.loop-round._round < n) c.len-round-end.ensures c.loop-round-test.true) c.in-Ok.ensures.fits c.in-Ok.ensures.test c.loop-round.invariant.test;
  refusal = test_refusal_next c.args.kernel.now (length c.args.kernel.now.rules) c.loop-round._round c.loop-round.made c.in-Ok.next (test_refusal_to c.args.kernel.now.rules (length c.args.kernel.now.rules) c.args.test.now) (subst (λ (n : ℕ). c.loop-round._round < n) c.len-round-end.ensures c.loop-round-test.true) c.in-Ok.ensures.fits c.in-Ok.ensures.test c.loop-round.invariant.refusal;
}

pub returns-clause-test : goal.returns-clause-test
returns-clause-test c = sym (last_test c.args.kernel.now (length c.args.kernel.now.rules) c.loop-round._round c.loop-round.made (subst (λ (n : ℕ). n ≤ c.loop-round._round) c.len-round-end.ensures c.loop-round-test.false)) ∙ c.loop-round.invariant.test

pub returns-clause-fits : goal.returns-clause-fits
returns-clause-fits c = sym c.loop-round.invariant.refusal ∙ last_test_refusal c.args.kernel.now (length c.args.kernel.now.rules) c.loop-round._round c.loop-round.made (subst (λ (n : ℕ). n ≤ c.loop-round._round) c.len-round-end.ensures c.loop-round-test.false)
