use Rattle.kernel_expressions.specs.Signs.{sign_text}
use Rattle.kernel_expressions.proofs.ListSteps.{list_first, list_on}
use Rattle.kernel_expressions.proofs.Settling.{handed_on, leads_ends, leads_stops, list_item, list_more, list_next, list_stops, list_ends}
use Rattle.kernel_expressions.proofs.ListEnds.{between_names, name_whole, name_stops}
use Rattle.kernel_expressions.proofs.ahead.names.Goals as goal

pub names-init : goal.names-init
names-init c = record {
  read = list_first _ _ _ _ _ _ _ _ _ c.in_ok-names.ensures c.in_ok-first.ensures.read;
  leads = list_item (between_names (sign_text c.args.between)) (name_whole c.in_ok-first.ensures.read);
}

pub names-preserved : goal.names-preserved
names-preserved c = record {
  read = list_on _ _ _ _ _ _ _ _ _ _ _ _ c.in_ok-push.ensures.ok c.names.invariant.read c.in-Some.ensures.0 c.in-Some.ensures.1 c.in_ok-other.ensures.read;
  leads = list_more (between_names (sign_text c.args.between)) c.names.invariant.leads c.in-Some.ensures.0 c.in-Some.ensures.1 (name_whole c.in_ok-other.ensures.read);
}

pub returns-clause-ends : goal.returns-clause-ends
returns-clause-ends c = leads_ends (list_ends c.names.invariant.leads c.in_default.ensures)

pub returns-in_err-first-clause-stops : goal.returns-in_err-first-clause-stops
returns-in_err-first-clause-stops c = λ within. handed_on _ _ _ _ c.from_residual.ensures.1 c.in_err-first.ensures.stops (λ last h. list_stops (between_names (sign_text c.args.between)) (name_stops within h))

pub returns-in_err-other-clause-stops : goal.returns-in_err-other-clause-stops
returns-in_err-other-clause-stops c = λ within. handed_on _ _ _ _ c.from_residual-in_err-other.ensures.1 c.in_err-other.ensures.stops
    (λ last h. let next = list_next (between_names (sign_text c.args.between)) c.names.invariant.leads c.in-Some.ensures.0 c.in-Some.ensures.1 in leads_stops next (list_stops (between_names (sign_text c.args.between)) (name_stops next.within h)))

pub returns-clause-read : goal.returns-clause-read
returns-clause-read c = c.names.invariant.read
