use Rattle.worked_rows.proofs.EmptySum as rows
use Rattle.worked_rows.proofs.laws.empty_sum.Goals as goal

pub returns : goal.returns
returns c = rows.first_sum_is_empty
