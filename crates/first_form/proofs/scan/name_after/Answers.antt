use Rattle.std.proofs.Common.{sym}
use Rattle.first_form.proofs.Fronts.{is_name_not}
use Rattle.first_form.proofs.scan.name_after.Goals as goal

pub returns-else-is_name : goal.returns-else-is_name
returns-else-is_name c = is_name_not _ _ _ _ _ c.in_ok-rest.ensures c.run.ensures (sym c.if-is_name.ensures)
