use Rattle.expanded_values.proofs.Valid.{formed_again, valid_again}
use Rattle.expanded_values.proofs.laws.expansion_is_valid.Goals as goal

pub returns-clause-formed : goal.returns-clause-formed
returns-clause-formed c = formed_again

pub returns-clause-valid : goal.returns-clause-valid
returns-clause-valid c = valid_again
