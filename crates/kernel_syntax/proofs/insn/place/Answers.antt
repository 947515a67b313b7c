use Rattle.kernel_syntax.proofs.Leads.{ends_through, stops_through, any_rest}
use Rattle.kernel_syntax.proofs.InsnEnds.{no_place, place_opens}
use Rattle.kernel_syntax.proofs.LineSteps.{place_if}
use Rattle.kernel_syntax.proofs.insn.place.Goals as goal

pub returns-in-Some-clause-read : goal.returns-in-Some-clause-read
returns-in-Some-clause-read c = place_if _ _ _ _ c.places.ensures.read

pub returns-in-Some-clause-ends : goal.returns-in-Some-clause-ends
returns-in-Some-clause-ends c = ends_through _ _ _ (place_opens _ _ c.in-Some.ensures.1) (any_rest _) c.places.ensures.read c.places.ensures.ends

pub returns-in-Some-clause-stops : goal.returns-in-Some-clause-stops
returns-in-Some-clause-stops c = stops_through _ _ (place_opens _ _ c.in-Some.ensures.1) (any_rest _) (c.places.ensures.stops c.requires)

pub returns-in-None-clause-ends : goal.returns-in-None-clause-ends
returns-in-None-clause-ends c = no_place _ _ c.requires c.in-None.ensures
