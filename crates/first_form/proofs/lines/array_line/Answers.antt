use Rattle.std.proofs.Common.{sym}
use Rattle.std.proofs.lemmas.Bool.{both_ways}
use Rattle.first_form.proofs.Fronts.{at_none}
use Rattle.first_form.proofs.NameLists.{names_more, not_among}
use Rattle.first_form.proofs.LineTexts.{array_first, array_second, array_made}
use Rattle.first_form.proofs.lines.array_line.Goals as goal

pub returns-in_err-name : goal.returns-in_err-name
returns-in_err-name c = at_none _ _ _ c.from_residual.ensures (λ name rest h. c.in_err-name.ensures name _ (array_first _ _ _ _ name rest h))

pub returns-in_err-rest : goal.returns-in_err-rest
returns-in_err-rest c = at_none _ _ _ c.from_residual-in_err-rest.ensures (λ name rest h. c.in_err-rest.ensures rest (sym (array_second _ _ _ _ name rest _ _ h c.in_ok-name.ensures).rests))

pub returns-then-is_among : goal.returns-then-is_among
returns-then-is_among c = λ name rest h. let k = (array_second _ _ _ _ name rest _ _ h c.in_ok-name.ensures).names in both_ways _ (not_among c.args.declared.now _ (rw k at h.names)) (sym c.if-is_among.ensures)

pub returns-else-is_among : goal.returns-else-is_among
returns-else-is_among c = record {
  is = array_made _ _ _ _ _ _ c.in_ok-name.ensures c.in_ok-rest.ensures;
  names = names_more c.args.declared.now _ c.requires c.in_ok-name.ensures.named (sym c.if-is_among.ensures);
}
