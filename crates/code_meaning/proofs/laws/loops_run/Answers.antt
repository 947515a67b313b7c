use Rattle.code_meaning.proofs.Alone.{whole_loop, empty_loop}
use Rattle.code_meaning.proofs.laws.loops_run.Goals as goal

pub returns-clause-turns : goal.returns-clause-turns
returns-clause-turns c code params number var lower upper fresh body tasks outer low last steps left mem t f g e =
    whole_loop code params number var upper fresh body tasks outer low last steps mem t lower left f g e

pub returns-clause-empty : goal.returns-clause-empty
returns-clause-empty c = empty_loop
