use Rattle.std.proofs.Common.{codes, refl}
use Rattle.kernel_grammar.specs.Lexicals.{mark}
use Rattle.kernel_expressions.proofs.ListSteps.{numbers_first, numbers_on, numbers_whole, numbers_none}
use Rattle.kernel_expressions.proofs.Settling.{handed_on, leads_ends, leads_on, leads_stops, list_item, list_more, list_next, list_stops, list_ends, closed, none_closed, not_closed}
use Rattle.kernel_expressions.proofs.ListEnds.{between_names, digits_whole, digits_whole_from, digits_stops, digits_stops_from, numbers_lead, no_numbers}
use Rattle.kernel_expressions.proofs.lists.numbers.Goals as goal

pub numbers-init : goal.numbers-init
numbers-init c = record {
  read = numbers_first _ _ _ _ _ _ _ _ c.in_ok-numbers.ensures c.in-Some.ensures.0 c.in-Some.ensures.1 c.in_ok-first.ensures.read.0 c.in_ok-first.ensures.read.1 c.number_of.ensures;
  leads = list_item (between_names (codes ",")) (digits_whole_from c.in-Some.ensures.0 c.in_ok-first.ensures.read.0 c.in_ok-first.ensures.read.1);
}

pub numbers-preserved : goal.numbers-preserved
numbers-preserved c = record {
  read = numbers_on _ _ _ _ _ _ _ _ _ _ c.in_ok-push.ensures.ok c.numbers.invariant.read c.in-Some-behind_sign.ensures.0 c.in-Some-behind_sign.ensures.1 c.in_ok-other.ensures.read.0 c.in_ok-other.ensures.read.1 c.number_of-in-Some-behind_sign.ensures;
  leads = list_more (between_names (codes ",")) c.numbers.invariant.leads c.in-Some-behind_sign.ensures.0 c.in-Some-behind_sign.ensures.1 (digits_whole c.in_ok-other.ensures.read.0 c.in_ok-other.ensures.read.1);
}

pub returns-clause-read : goal.returns-clause-read
returns-clause-read c = numbers_whole _ _ _ _ _ _ c.numbers.invariant.read c.in_ok-at.ensures.read.0 c.in_ok-at.ensures.read.1

pub returns-in_default-clause-read : goal.returns-in_default-clause-read
returns-in_default-clause-read c = numbers_none _ _ _ _ c.new.ensures c.requires

pub returns-clause-ends : goal.returns-clause-ends
returns-clause-ends c = leads_ends (leads_on (numbers_lead c.in-Some.ensures.1) (closed (mark "]") (list_ends c.numbers.invariant.leads c.in_default-behind_sign.ensures) (λ rest. refl) c.in_ok-at.ensures.read.0 c.in_ok-at.ensures.read.1))

pub returns-in_default-clause-ends : goal.returns-in_default-clause-ends
returns-in_default-clause-ends c = leads_ends (no_numbers c.requires c.in_default.ensures)

pub returns-in_err-first-clause-stops : goal.returns-in_err-first-clause-stops
returns-in_err-first-clause-stops c = λ within. handed_on _ _ _ _ c.from_residual.ensures.1 c.in_err-first.ensures.stops
    (λ last h. leads_stops (numbers_lead c.in-Some.ensures.1) (none_closed (mark "]") (list_stops (between_names (codes ",")) (digits_stops_from c.in-Some.ensures.0 (numbers_lead c.in-Some.ensures.1).within h)) (λ rest. refl)))

pub returns-in_err-other-clause-stops : goal.returns-in_err-other-clause-stops
returns-in_err-other-clause-stops c = let next = list_next (between_names (codes ",")) c.numbers.invariant.leads c.in-Some-behind_sign.ensures.0 c.in-Some-behind_sign.ensures.1 in
    λ within. handed_on _ _ _ _ c.from_residual-in_err-other.ensures.1 c.in_err-other.ensures.stops
    (λ last h. leads_stops (numbers_lead c.in-Some.ensures.1) (none_closed (mark "]") (leads_stops next (list_stops (between_names (codes ",")) (digits_stops next.within h))) (λ rest. refl)))

pub returns-in_err-at-clause-stops : goal.returns-in_err-at-clause-stops
returns-in_err-at-clause-stops c = λ within. handed_on _ _ _ _ c.from_residual-in_err-at.ensures.1 c.in_err-at.ensures.stops
    (λ last h. leads_stops (numbers_lead c.in-Some.ensures.1) (not_closed (mark "]") (list_ends c.numbers.invariant.leads c.in_default-behind_sign.ensures) (λ rest. refl) h))
