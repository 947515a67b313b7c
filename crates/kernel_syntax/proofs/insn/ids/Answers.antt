use Rattle.kernel_syntax.proofs.Leads.{ends_through, stops_through}
use Rattle.kernel_syntax.proofs.InsnEnds.{no_ids, ids_open, ids_rest}
use Rattle.kernel_syntax.proofs.LineSteps.{ids_if}
use Rattle.kernel_syntax.proofs.insn.ids.Goals as goal

pub returns-in-Some-clause-read : goal.returns-in-Some-clause-read
returns-in-Some-clause-read c = ids_if _ _ _ _ c.names.ensures.read

pub returns-in-Some-clause-ends : goal.returns-in-Some-clause-ends
returns-in-Some-clause-ends c = ends_through _ _ _ (ids_open _ _ _ c.in-Some.ensures c.in-Some.field-0.free) ids_rest c.names.ensures.read c.names.ensures.ends

pub returns-in-Some-clause-stops : goal.returns-in-Some-clause-stops
returns-in-Some-clause-stops c = stops_through _ _ (ids_open _ _ _ c.in-Some.ensures c.in-Some.field-0.free) ids_rest (c.names.ensures.stops c.requires)

pub returns-in-None-clause-ends : goal.returns-in-None-clause-ends
returns-in-None-clause-ends c = no_ids _ _ c.requires c.in-None.ensures
