use Rattle.std.specs.Prelude.{◌≡◌, take}
use Rattle.step_orders.specs.declared.additions.Cell.{Cell}
use Rattle.step_orders.specs.Orders.{after_steps}
use Rattle.step_orders.specs.Additions.{additions, word_at}
use Rattle.step_orders.proofs.additions.run.Given as goal

abbrev pub invariant-loop-step : goal.invariant-loop-step
invariant-loop-step l =
    (c : Cell) → word_at l.reached c ≡ after_steps additions (take l.step-index l.steps) (word_at l.fn.store) c
