use Rattle.std.proofs.Common.{map, arith, ◌<◌, length, []}
use Rattle.std.proofs.lemmas.List.{at_drop_more}
use Rattle.std.specs.List.{concat}
use Rattle.first_form.proofs.Fronts.{goes_more, goes_not, at_none}
use Rattle.first_form.proofs.scan.after.Goals as goal

pub returns-in_err-rest : goal.returns-in_err-rest
returns-in_err-rest c =
    let within : c.loop-text.text-index < length c.args.texts.now = omega arith in
    let i = rw (at_drop_more (λ xs. concat (map (λ t. t.now) xs)) c.args.texts.now c.loop-text.text-index (record { ref_ptr = (0, 0); now = [] }) within) at c.loop-text.invariant in
    at_none _ _ _ c.from_residual.ensures (goes_not _ _ _ _ _ i c.in_err-rest.ensures)

pub loop-text-preserved : goal.loop-text-preserved
loop-text-preserved c =
    let within : c.loop-text.text-index < length c.args.texts.now = omega arith in
    let i = rw (at_drop_more (λ xs. concat (map (λ t. t.now) xs)) c.args.texts.now c.loop-text.text-index (record { ref_ptr = (0, 0); now = [] }) within) at c.loop-text.invariant in
    goes_more _ _ _ _ _ _ i c.in_ok-rest.ensures
