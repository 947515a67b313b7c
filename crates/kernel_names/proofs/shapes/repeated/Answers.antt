use Rattle.std.proofs.Common.{[], List, ℕ, Some, sym, ap, ◌∙◌}
use Rattle.kernel_names.proofs.NameLaws.{repeated_found, repeated_more, added_more}
use Rattle.kernel_names.specs.Lines.{repeated_behind}
use Rattle.kernel_names.proofs.shapes.repeated.Goals as goal

pub returns-then-has : goal.returns-then-has
returns-then-has c =
    ap (λ (n : List ℕ). Some n) c.in_ok-copy.ensures
    ∙ repeated_found c.args.names.now c.names.name-index c.name-item.result c.names.before (repeated_behind [] c.args.names.now) c.names-test.true c.name-item.is c.names.invariant.before (sym c.has.ensures ∙ c.if-has.true) c.names.invariant.first

pub names-preserved : goal.names-preserved
names-preserved c = record {
  first = repeated_more c.args.names.now c.names.name-index c.name-item.result c.names.before (repeated_behind [] c.args.names.now) c.names-test.true c.name-item.is c.names.invariant.before (sym c.has.ensures ∙ c.if-has.false) c.names.invariant.first;
  before = added_more [] c.args.names.now c.names.name-index c.name-item.result c.names.before c.insert.new.self c.names-test.true c.name-item.is c.names.invariant.before c.in_ok-insert.ensures;
}
