use Rattle.std.proofs.Common.{◌∙◌}
use Rattle.step_orders.specs.Additions.{additions, word_at}
use Rattle.step_orders.proofs.Like.{after_steps-take}
use Rattle.step_orders.proofs.Sums.{are_steps}
use Rattle.step_orders.proofs.additions.run.Goals as goal

pub loop-step-preserved : goal.loop-step-preserved
loop-step-preserved c = λ d.
    c.after-reached.ensures d
    ∙ after_steps-take additions are_steps c.args.steps.now c.loop-step.step-index _ c.loop-step-test.true
    (word_at c.args.store) (word_at c.loop-step.reached) c.loop-step.invariant d
