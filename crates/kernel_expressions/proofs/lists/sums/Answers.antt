use Rattle.kernel_expressions.proofs.ListSteps.{list_first, list_on, sums_whole}
use Rattle.kernel_expressions.proofs.Settling.{handed_on, whole, leads_ends, leads_stops, same_leads, same_stops, list_item, list_more, list_next, list_stops, list_ends}
use Rattle.kernel_expressions.proofs.ListEnds.{between_sums, read_text, sums_same}
use Rattle.kernel_expressions.proofs.lists.sums.Goals as goal

pub sums-init : goal.sums-init
sums-init c = record {
  read = list_first _ _ _ _ _ _ _ _ _ c.in_ok-sums.ensures c.in_ok-first.ensures.read;
  leads = list_item between_sums (whole (read_text c.in_ok-first.ensures.read) c.in_ok-first.ensures.ends);
}

pub sums-preserved : goal.sums-preserved
sums-preserved c = record {
  read = list_on _ _ _ _ _ _ _ _ _ _ _ _ c.in_ok-push.ensures.ok c.sums.invariant.read c.in-Some.ensures.0 c.in-Some.ensures.1 c.in_ok-other.ensures.read;
  leads = list_more between_sums c.sums.invariant.leads c.in-Some.ensures.0 c.in-Some.ensures.1 (whole (read_text c.in_ok-other.ensures.read) c.in_ok-other.ensures.ends);
}

pub returns-clause-read : goal.returns-clause-read
returns-clause-read c = sums_whole _ _ _ _ _ c.sums.invariant.read

pub returns-clause-ends : goal.returns-clause-ends
returns-clause-ends c = leads_ends (same_leads sums_same (list_ends c.sums.invariant.leads c.in_default.ensures))

pub returns-in_err-first-clause-stops : goal.returns-in_err-first-clause-stops
returns-in_err-first-clause-stops c = λ within. handed_on _ _ _ _ c.from_residual.ensures.1 (c.in_err-first.ensures.stops within) (λ last h. same_stops sums_same (list_stops between_sums h))

pub returns-in_err-other-clause-stops : goal.returns-in_err-other-clause-stops
returns-in_err-other-clause-stops c = let next = list_next between_sums c.sums.invariant.leads c.in-Some.ensures.0 c.in-Some.ensures.1 in
    λ within. handed_on _ _ _ _ c.from_residual-in_err-other.ensures.1 (c.in_err-other.ensures.stops next.within) (λ last h. same_stops sums_same (leads_stops next (list_stops between_sums h)))
