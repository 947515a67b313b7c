use Rattle.std.proofs.Common.{[]}
use Rattle.kernel_names.proofs.scopes.BodyScope.new.Goals as goal

pub returns-clause-own : goal.returns-clause-own
returns-clause-own c = c.in_ok-add_names.ensures [] c.new-own.ensures
