use Rattle.worked_rows.proofs.Update as rows
use Rattle.worked_rows.proofs.laws.update.Goals as goal

pub returns : goal.returns
returns c = rows.updates_add_up
