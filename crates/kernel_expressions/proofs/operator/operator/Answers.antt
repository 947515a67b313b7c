use Rattle.kernel_expressions.proofs.Refusing.{behind_begun}
use Rattle.kernel_expressions.proofs.operator.operator.Goals as goal
use Rattle.kernel_expressions.proofs.Going.{ended_there, none_there, from_stopped, halts_stopped}

pub returns-in_default-clause-begun : goal.returns-in_default-clause-begun
returns-in_default-clause-begun c = behind_begun _ _ c.args.part.now _ _ _ c.end.ensures.begun

pub returns-in-Some-infix_of-clause-begun : goal.returns-in-Some-infix_of-clause-begun
returns-in-Some-infix_of-clause-begun c = behind_begun _ _ c.args.part.now _ _ _ c.infixed.ensures.begun

pub returns-clause-begun : goal.returns-clause-begun
returns-clause-begun c = behind_begun _ _ c.args.part.now _ _ _ c.end-2.ensures.begun

pub returns-in_default-clause-goes : goal.returns-in_default-clause-goes
returns-in_default-clause-goes c = from_stopped _ _ _ _ _ _ _ c.end.new.part _ (ended_there c.in_default.ensures) c.end.ensures.goes

pub returns-in_default-clause-none : goal.returns-in_default-clause-none
returns-in_default-clause-none c = halts_stopped _ _ _ _ _ _ _ _ (ended_there c.in_default.ensures) c.end.ensures.none

pub returns-clause-goes : goal.returns-clause-goes
returns-clause-goes c = from_stopped _ _ _ _ _ _ _ c.end-2.new.part _ (none_there c.in-Some.ensures c.in_default-infix_of.ensures c.in_default-shift_of.ensures) c.end-2.ensures.goes

pub returns-clause-none : goal.returns-clause-none
returns-clause-none c = halts_stopped _ _ _ _ _ _ _ _ (none_there c.in-Some.ensures c.in_default-infix_of.ensures c.in_default-shift_of.ensures) c.end-2.ensures.none
