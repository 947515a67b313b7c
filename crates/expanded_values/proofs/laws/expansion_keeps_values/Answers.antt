use Rattle.expanded_values.proofs.Values.{keeps_values, instances}
use Rattle.expanded_values.proofs.laws.expansion_keeps_values.Goals as goal

pub returns-clause-values : goal.returns-clause-values
returns-clause-values c = keeps_values

pub returns-clause-instances : goal.returns-clause-instances
returns-clause-instances c = instances
