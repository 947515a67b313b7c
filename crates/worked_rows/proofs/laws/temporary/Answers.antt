use Rattle.worked_rows.proofs.Temporary as rows
use Rattle.worked_rows.proofs.laws.temporary.Goals as goal

pub returns : goal.returns
returns c = rows.reads_are_of_stores
