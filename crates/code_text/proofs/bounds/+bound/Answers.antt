-- The turns of a list of bounds, and its end.
use Rattle.std.proofs.Common.{◌≡◌, ◌+◌, ◌-◌, ◌<◌, length, arith, refl}
use Rattle.std.proofs.lemmas.Grind.{common_steps}
use Rattle.std.proofs.lemmas.Result.{on_ok_weaker}
use Rattle.code_text.specs.Names.{name_text}
use Rattle.code_text.specs.BoundText.{bound_text}
use Rattle.text_writer.proofs.Lists.{advance}
use Rattle.code_text.proofs.Lists.{list_turn, list_last, closed}
use Rattle.code_text.proofs.Pieces.{four}
use Rattle.code_text.proofs.bounds.+bound.Goals as goal

pub write_list-loop-i-preserved : goal.write_list-loop-i-preserved
write_list-loop-i-preserved t c =
    let within : c.loop-i.i + 1 < length c.args.bounds.now = omega arith in
    let turn = list_turn (bound_text (name_text c.args.code.now)) c.args.call.now c.args.bounds.now c.loop-i.i c.index-bounds-i.result within c.index-bounds-i.is in
    let wrote = four _ _ _ _ _ _ _ _ _ c.in_ok-put.ensures c.in_ok-put-2.ensures c.in_ok-write_bound.ensures c.in_ok-put-3.ensures in
    advance _ _ _ _ _ _ c.loop-i.invariant turn wrote

pub write_list-returns : goal.write_list-returns
write_list-returns t c =
    let some : 0 < length c.args.bounds.now = grind (arith, common_steps) in
    let at_end : c.loop-i.i ≡ length c.args.bounds.now - 1 = omega arith in
    let all : length c.args.bounds.now - 1 + 1 ≡ length c.args.bounds.now = omega arith in
    let last = list_last (bound_text (name_text c.args.code.now)) c.args.call.now c.args.bounds.now (length c.args.bounds.now - 1) c.index-bounds-last.result all c.index-bounds-last.is in
    let rest = rw at_end at c.loop-i.invariant in
    on_ok_weaker c.put_repeated.result (λ wrote. closed _ _ _ _ _ _ _ _ rest last refl c.in_ok-write_bound-2.ensures wrote) c.put_repeated.ensures
