-- The first place, and the end of the turns.
use Rattle.std.proofs.Common.{◌≡◌, ◌-◌, ◌<◌, length, min, arith}
use Rattle.std.proofs.lemmas.Grind.{common_steps}
use Rattle.code_text.specs.Names.{name_text}
use Rattle.code_text.specs.FormText.{form_text}
use Rattle.code_text.proofs.Lists.{places_begin, turns_end, begun, ended}
use Rattle.code_text.proofs.bounds.write_places.Goals as goal

pub loop-i-init : goal.loop-i-init
loop-i-init c =
    let some : 0 < length c.args.places.now = grind (arith, common_steps) in
    begun _ _ _ _ _ _ _ c.in_ok-put_repeated.ensures c.in_ok-write_round.ensures
    (places_begin (form_text (name_text c.args.code.now)) c.args.places.now c.args.shapes.now c.min-turns.result c.index-places-0.result some c.min-turns.ensures c.index-places-0.is)

pub returns : goal.returns
returns c =
    let at_end : c.loop-i.i ≡ min (length c.args.places.now - 1) (length c.args.shapes.now) = omega arith in
    ended _ _ _ c.loop-i.invariant (turns_end (form_text (name_text c.args.code.now)) c.args.places.now c.args.shapes.now c.loop-i.i at_end)
