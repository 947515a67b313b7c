use Rattle.kernel_names.proofs.NameLaws.{added_more}
use Rattle.kernel_names.proofs.declarations.add_names.Goals as goal

pub added-preserved : goal.added-preserved
added-preserved c = λ before e.
    added_more before c.args.added.now c.added.name-index c.name-item.result c.added.names c.insert.new.self c.added-test.true c.name-item.is (c.added.invariant before e) c.in_ok-insert.ensures
