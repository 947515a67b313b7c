use Rattle.worked_rows.proofs.TwoWriters as rows
use Rattle.worked_rows.proofs.laws.two_writers.Goals as goal

pub returns : goal.returns
returns c = rows.second_is_last
