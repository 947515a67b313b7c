use Rattle.std.proofs.Common.{sym}
use Rattle.first_form.proofs.Fronts.{at_none}
use Rattle.first_form.proofs.NameLists.{pair_not}
use Rattle.first_form.proofs.LineTexts.{domain_first, domain_second, domain_third, domain_made}
use Rattle.first_form.proofs.lines.domain_line.Goals as goal

pub returns-in_err-param : goal.returns-in_err-param
returns-in_err-param c = at_none _ _ _ c.from_residual.ensures (λ param iname rest h. c.in_err-param.ensures param _ (domain_first _ param iname rest h))

pub returns-in_err-iname : goal.returns-in_err-iname
returns-in_err-iname c = at_none _ _ _ c.from_residual-in_err-iname.ensures (λ param iname rest h. c.in_err-iname.ensures iname _ (domain_second _ param iname rest _ _ h c.in_ok-param.ensures).1)

pub returns-in_err-rest : goal.returns-in_err-rest
returns-in_err-rest c = at_none _ _ _ c.from_residual-in_err-rest.ensures (λ param iname rest h. c.in_err-rest.ensures rest (domain_third _ param iname rest _ _ _ _ h c.in_ok-param.ensures c.in_ok-iname.ensures).rests)

pub returns-then-is_among : goal.returns-then-is_among
returns-then-is_among c = λ param iname rest h. let k = domain_third _ param iname rest _ _ _ _ h c.in_ok-param.ensures c.in_ok-iname.ensures in pair_not c.in_ok-param.param.now c.in_ok-iname.iname.now (rw (k.params, k.inames) at h.names) (sym c.if-is_among.ensures)

pub returns : goal.returns
returns c = domain_made _ _ _ _ _ _ c.in_ok-param.ensures c.in_ok-iname.ensures c.in_ok-rest.ensures (sym c.if-is_among.ensures)
