use Rattle.std.proofs.Common.{ℕ, ◌-◌, ◌<◌, ◌≤◌, ◌∙◌, sym, subst, length}
use Rattle.kernel_ir.specs.Expanded.{expanded}
use Rattle.subst_rules.specs.Replaced.{refusal_to}
use Rattle.subst_rules.proofs.Expanding.{free_is, free_fits, tree_next, refusal_next, refusal_here, last_tree, last_refusal}
use Rattle.subst_rules.proofs.rounds.expanded.Goals as goal

pub returns-then-settled-clause-tree : goal.returns-then-settled-clause-tree
returns-then-settled-clause-tree c = sym (free_is c.args.kernel.now ((length c.args.kernel.now.rules) - c.loop-round._round) c.loop-round.tree (sym c.is_use_free-settled.ensures ∙ c.if-settled.true)) ∙ c.loop-round.invariant.tree

pub returns-then-settled-clause-fits : goal.returns-then-settled-clause-fits
returns-then-settled-clause-fits c = sym c.loop-round.invariant.refusal ∙ free_fits c.args.kernel.now.rules ((length c.args.kernel.now.rules) - c.loop-round._round) c.loop-round.tree (sym c.is_use_free-settled.ensures ∙ c.if-settled.true)

pub returns-in-Err-clause-refused : goal.returns-in-Err-clause-refused
returns-in-Err-clause-refused c known = sym c.loop-round.invariant.refusal ∙ refusal_here c.args.kernel.now (length c.args.kernel.now.rules) c.loop-round._round c.loop-round.tree c.in-Err.fault (subst (λ (n : ℕ). c.loop-round._round < n) c.len-round-end.ensures c.loop-round-test.true) (c.in-Err.ensures.refused known)

pub loop-round-preserved : goal.loop-round-preserved
loop-round-preserved c = record {
  tree = tree_next c.args.kernel.now (length c.args.kernel.now.rules) c.loop-round._round c.loop-round.tree c.in-Ok.next (expanded c.args.kernel.now c.args.expr.now) (subst (λ (n : ℕ). c.loop-round._round < n) c.len-round-end.ensures c.loop-round-test.true) c.in-Ok.ensures.fits c.in-Ok.ensures.tree c.loop-round.invariant.tree;
  refusal = refusal_next c.args.kernel.now (length c.args.kernel.now.rules) c.loop-round._round c.loop-round.tree c.in-Ok.next (refusal_to c.args.kernel.now.rules (length c.args.kernel.now.rules) c.args.expr.now) (subst (λ (n : ℕ). c.loop-round._round < n) c.len-round-end.ensures c.loop-round-test.true) c.in-Ok.ensures.fits c.in-Ok.ensures.tree c.loop-round.invariant.refusal;
}

pub returns-clause-tree : goal.returns-clause-tree
returns-clause-tree c = sym (last_tree c.args.kernel.now (length c.args.kernel.now.rules) c.loop-round._round c.loop-round.tree (subst (λ (n : ℕ). n ≤ c.loop-round._round) c.len-round-end.ensures c.loop-round-test.false)) ∙ c.loop-round.invariant.tree

pub returns-clause-fits : goal.returns-clause-fits
returns-clause-fits c = sym c.loop-round.invariant.refusal ∙ last_refusal c.args.kernel.now (length c.args.kernel.now.rules) c.loop-round._round c.loop-round.tree (subst (λ (n : ℕ). n ≤ c.loop-round._round) c.len-round-end.ensures c.loop-round-test.false)
