use Rattle.std.proofs.Common.{◌≡◌, ◌≢◌, List, Some, subst}
use Rattle.std.specs.Result.{IfErr}
use Rattle.expr_tree.specs.declared.build.ExprFault.TheVariants.{OutOfMemory}
use Rattle.expr_tree.specs.Rewritten.{outcome_of_test}
use Rattle.kernel_ir.specs.declared.kernel.SubstRule.{SubstRule}
use Rattle.subst_rules.specs.Replaced.{replacing}
use Rattle.subst_rules.proofs.rounds.next_test.Goals as goal

pub returns-clause-refused : goal.returns-clause-refused
returns-clause-refused c = subst (λ (rs : List SubstRule). IfErr c.replaced_test.result (λ f. f ≢ OutOfMemory → (outcome_of_test (replacing rs) c.args.test.now).refusal ≡ Some f)) c.as_slice.ensures c.replaced_test.ensures.refused
