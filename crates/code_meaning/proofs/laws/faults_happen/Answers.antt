use Rattle.code_meaning.proofs.Faults.{outside_faults, unset_faults, overflow_faults, race_faults, divergence_faults, barriers_open}
use Rattle.code_meaning.proofs.laws.faults_happen.Goals as goal

pub returns-clause-outside : goal.returns-clause-outside
returns-clause-outside c = outside_faults

pub returns-clause-unset : goal.returns-clause-unset
returns-clause-unset c = unset_faults

pub returns-clause-overflow : goal.returns-clause-overflow
returns-clause-overflow c = overflow_faults

pub returns-clause-race : goal.returns-clause-race
returns-clause-race c = race_faults

pub returns-clause-divergent : goal.returns-clause-divergent
returns-clause-divergent c = divergence_faults

pub returns-clause-barriers : goal.returns-clause-barriers
returns-clause-barriers c = barriers_open
