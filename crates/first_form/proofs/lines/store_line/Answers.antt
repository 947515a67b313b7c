use Rattle.std.proofs.Common.{sym, ◌∙◌}
use Rattle.first_form.proofs.Fronts.{at_none}
use Rattle.first_form.proofs.LineTexts.{store_text, store_first, store_second, store_made}
use Rattle.first_form.proofs.lines.store_line.Goals as goal

pub returns-in_err-rest : goal.returns-in_err-rest
returns-in_err-rest c = at_none _ _ _ c.from_residual.ensures (λ factor rest h. c.in_err-rest.ensures _ (h.is ∙ store_text _ _ _ factor rest))

pub returns-in_err-factor : goal.returns-in_err-factor
returns-in_err-factor c = at_none _ _ _ c.from_residual-in_err-factor.ensures (λ factor rest h. c.in_err-factor.ensures factor _ (store_first _ _ _ _ factor rest _ h c.in_ok-rest.ensures))

pub returns-in_err-rest-2 : goal.returns-in_err-rest-2
returns-in_err-rest-2 c = at_none _ _ _ c.from_residual-in_err-rest-2.ensures (λ factor rest h. c.in_err-rest-2.ensures rest (sym (store_second _ _ _ _ factor rest _ _ _ h c.in_ok-rest.ensures c.in_ok-factor.ensures)))

pub returns : goal.returns
returns c = store_made _ _ _ _ _ _ _ _ c.in_ok-rest.ensures c.in_ok-factor.ensures c.in_ok-rest-2.ensures
