use Rattle.std.proofs.Common.{◌≡◌, true, sym, subst, slice_get}
use Rattle.expr_tree.specs.Scenes.{is_among}
use Rattle.type_infer.specs.Orders.{is_new, used_by}
use Rattle.type_infer.proofs.Walks.{all_reach, found_passes, found_among, none_passes}
use Rattle.type_infer.proofs.order.Walk.advance.Goals as goal

pub enter-requires-clause-new : goal.enter-requires-clause-new
enter-requires-clause-new c =
    found_passes (λ used. is_new (slice_get c.args.self.now.marks.items used)) (used_by c.args.uses.now c.args.rule) c.in-Some.next (sym c.in-Some.ensures)

pub enter-requires-clause-reached : goal.enter-requires-clause-reached
enter-requires-clause-reached c r among =
    let u = found_among (λ used. is_new (slice_get c.args.self.now.marks.items used)) (used_by c.args.uses.now c.args.rule) c.in-Some.next (sym c.in-Some.ensures) in
    all_reach c.args.uses.now c.args.self.now.way.items c.args.rule c.in-Some.next c.requires.walk.ways u r
    (subst (λ way. is_among way r ≡ true) c.in_ok-push-in-Some.ensures.items among)

pub leave-requires-clause-through : goal.leave-requires-clause-through
leave-requires-clause-through c r u =
    none_passes (λ used. is_new (slice_get c.args.self.now.marks.items used)) (used_by c.args.uses.now c.args.rule) (sym c.in-None.ensures) r u
