use Rattle.kernel_expressions.proofs.ListSteps.{a_name}
use Rattle.kernel_expressions.proofs.ahead.name.Goals as goal

pub returns-in_ok-name_of-in-Some-clause-read : goal.returns-in_ok-name_of-in-Some-clause-read
returns-in_ok-name_of-in-Some-clause-read c = a_name _ _ _ _ _ c.in-Some.word.free c.in_ok-name_of-in-Some.ensures c.in-Some.ensures
