use Rattle.step_orders.proofs.Like.{like_orders, respecting_orders}
use Rattle.step_orders.proofs.laws.like_orders.Goals as goal

pub returns-clause-lists : goal.returns-clause-lists
returns-clause-lists c start = like_orders

pub returns-clause-orders : goal.returns-clause-orders
returns-clause-orders c start = respecting_orders
