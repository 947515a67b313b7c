use Rattle.std.proofs.Common.{arith}
use Rattle.kernel_expressions.proofs.Refusing.{stops_as}
use Rattle.kernel_expressions.proofs.Wholes.{ends_as}
use Rattle.kernel_expressions.proofs.expression.sum.Goals as goal

pub returns-clause-ends : goal.returns-clause-ends
returns-clause-ends c = ends_as _ _ _ _ _ _ (λ t h. record { tree = h.tree; spelled = h.spelled; means = λ s. absurd s }) (c.of_level.ensures.ends (omega arith))

pub returns-clause-stops : goal.returns-clause-stops
returns-clause-stops c = λ within. stops_as _ _ _ _ _ _ (λ t h. record { tree = h.tree; spelled = h.spelled; means = λ s. absurd s }) (λ t h. record { tree = h.tree; spelled = h.spelled }) (c.of_level.ensures.none (omega arith)) (c.of_level.ensures.begun within)
