use Rattle.std.proofs.Common.{rules}
use Rattle.row_tests.proofs.rows.a_variable_cancels.Goals as goal

pub combine-sum-requires-clause-lower_row : goal.combine-sum-requires-clause-lower_row
combine-sum-requires-clause-lower_row g c = (3, search rules)

pub combine-sum-requires-clause-upper_row : goal.combine-sum-requires-clause-upper_row
combine-sum-requires-clause-upper_row g c = (3, search rules)
