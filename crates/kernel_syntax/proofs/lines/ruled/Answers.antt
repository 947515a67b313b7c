use Rattle.kernel_syntax.proofs.Leads.{ends_through, stops_through, sign_on}
use Rattle.kernel_syntax.proofs.LineEnds.{unruled, ruled_opens, ruled_rest}
use Rattle.kernel_syntax.proofs.LineSteps.{ruled_if, ruled_none}
use Rattle.kernel_syntax.proofs.lines.ruled.Goals as goal

pub returns-in-Some-clause-read : goal.returns-in-Some-clause-read
returns-in-Some-clause-read c = ruled_if _ _ _ _ _ c.in-Some.ensures.0 c.in-Some.ensures.1 c.conditions.ensures.read

pub returns-in-None-clause-read : goal.returns-in-None-clause-read
returns-in-None-clause-read c = ruled_none _ _ _ _ c.requires c.new.ensures

pub returns-in-Some-clause-ends : goal.returns-in-Some-clause-ends
returns-in-Some-clause-ends c = ends_through _ _ _ (sign_on (ruled_opens _ _ c.in-Some.ensures.1) c.in-Some.ensures) ruled_rest c.conditions.ensures.read c.conditions.ensures.ends

pub returns-in-Some-clause-stops : goal.returns-in-Some-clause-stops
returns-in-Some-clause-stops c = let h = (sign_on (ruled_opens _ _ c.in-Some.ensures.1) c.in-Some.ensures) in stops_through _ _ h ruled_rest (c.conditions.ensures.stops h.within)

pub returns-in-None-clause-ends : goal.returns-in-None-clause-ends
returns-in-None-clause-ends c = unruled _ _ c.requires c.in-None.ensures
