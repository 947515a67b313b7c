use Rattle.step_orders.proofs.Sums.{are_steps, free_where_unread}
use Rattle.step_orders.proofs.additions.additions_are_steps.Goals as goal

pub returns-clause-steps : goal.returns-clause-steps
returns-clause-steps c = are_steps

pub returns-clause-free : goal.returns-clause-free
returns-clause-free c = free_where_unread
