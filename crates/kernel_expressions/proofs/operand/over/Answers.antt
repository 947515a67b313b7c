use Rattle.std.proofs.Common.{arith}
use Rattle.kernel_expressions.proofs.ListSteps.{over_names_if, over_name}
use Rattle.kernel_expressions.proofs.Settling.{handed_on, refused_as, there_if, absent_if, leads_ends, leads_on, leads_stops}
use Rattle.kernel_expressions.proofs.ListEnds.{name_whole, name_stops, over_bare, over_parens, over_ends_if}
use Rattle.kernel_expressions.proofs.operand.over.Goals as goal

pub returns-then-is_some-clause-read : goal.returns-then-is_some-clause-read
returns-then-is_some-clause-read c = over_names_if _ _ _ _ c.in_parentheses.ensures.read

pub returns-then-is_some-clause-ends : goal.returns-then-is_some-clause-ends
returns-then-is_some-clause-ends c = over_ends_if _ _ _ _ (there_if _ c.if-is_some.ensures c.behind_sign.ensures) c.in_parentheses.ensures.read c.in_parentheses.ensures.ends

pub returns-then-is_some-clause-stops : goal.returns-then-is_some-clause-stops
returns-then-is_some-clause-stops c = λ within. refused_as _ _ _ (c.in_parentheses.ensures.stops within) (λ last h. leads_stops (over_parens (there_if _ c.if-is_some.ensures c.behind_sign.ensures)) h)

pub returns-clause-read : goal.returns-clause-read
returns-clause-read c = over_name _ _ _ _ _ _ c.in_ok-of_one.ensures c.in_ok-name.ensures.read

pub returns-clause-ends : goal.returns-clause-ends
returns-clause-ends c = let name = name_whole c.in_ok-name.ensures.read in leads_ends (leads_on (over_bare (omega (arith, name.on, name.within)) (absent_if _ c.if-is_some.ensures c.behind_sign.ensures)) name)

pub returns-in_err-name-clause-stops : goal.returns-in_err-name-clause-stops
returns-in_err-name-clause-stops c = λ within. handed_on _ _ _ _ c.from_residual.ensures.1 c.in_err-name.ensures.stops (λ last h. leads_stops (over_bare within (absent_if _ c.if-is_some.ensures c.behind_sign.ensures)) (name_stops within h))
