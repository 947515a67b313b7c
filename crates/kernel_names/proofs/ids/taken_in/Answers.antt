use Rattle.std.proofs.Common.{[], ◌∷◌, ◌++◌, Bool, ap, ◌∙◌}
use Rattle.kernel_names.proofs.NameLaws.{taken_more, added_more}
use Rattle.kernel_names.specs.Ids.{taken_behind}
use Rattle.kernel_names.proofs.ids.taken_in.Goals as goal

pub ids-preserved : goal.ids-preserved
ids-preserved c = record {
  taken = taken_more c.args.ids.now c.ids.id-index c.id-item.result c.ids.known c.ids.taken c.push.new.self (taken_behind [] c.args.ids.now) c.ids-test.true c.id-item.is c.ids.invariant.known c.ids.invariant.taken
      (c.in_ok-push.ensures.ok ∙ ap (λ (b : Bool). c.ids.taken ++ b ∷ []) c.has.ensures);
  known = added_more [] c.args.ids.now c.ids.id-index c.id-item.result c.ids.known c.insert.new.self c.ids-test.true c.id-item.is c.ids.invariant.known c.in_ok-insert.ensures;
}
